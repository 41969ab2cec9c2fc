use Rattle.fishdavit.proofs.Small.{small_laws}
use mathlib.Core.Path.{◌∙◌}
use Rattle.fishdavit.proofs.fishdavit_judge.Goals as goal

pub told-requires : goal.told-requires
told-requires c = search small_laws

pub returns : goal.returns
returns c = c.told.ensures ∙ c.judge.ensures
