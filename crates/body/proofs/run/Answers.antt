use Rattle.body.proofs.Arms.{left_there}
use Rattle.body.proofs.run.Goals as goal

pub after_plain-requires : goal.after_plain-requires
after_plain-requires c = left_there _ _ _ _ _ _ _ _ c.run_from_place-ran.ensures.value
