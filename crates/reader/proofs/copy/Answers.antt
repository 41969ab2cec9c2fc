use Rattle.std.proofs.Common.{sym}
use Rattle.laws.specs.Lists.{stored}
use Rattle.reader.proofs.copy.Goals as goal

pub returns : goal.returns
returns c = rw c.copy_from_slice.ensures.after (sym (stored _ _ c.requires))
