use Rattle.run.proofs.Ends.{zeroed_by}
use Rattle.run.proofs.zero_cells.Goals as goal

pub returns : goal.returns
returns c = zeroed_by _ _ _ c.requires (c.fill.ensures.after (λ y e. e))
