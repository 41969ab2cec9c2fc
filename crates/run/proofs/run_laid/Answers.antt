use Rattle.run.proofs.Ends.{laid}
use Rattle.run.proofs.run_laid.Goals as goal

pub returns : goal.returns
returns c = laid _ _ _ _ _ _ _ _ _ _ _ c.requires.1 c.requires.2 c.requires.3 c.run_from.ensures
