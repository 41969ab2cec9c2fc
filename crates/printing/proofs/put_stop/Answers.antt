use Rattle.printing.proofs.Puts.{stop_put}
use Rattle.printing.proofs.put_stop.Goals as goal

pub returns : goal.returns
returns c = stop_put _ _ _ _ _ _ c.put_field.ensures c.put_field-2.ensures c.put_field-3.ensures c.put_field-4.ensures
