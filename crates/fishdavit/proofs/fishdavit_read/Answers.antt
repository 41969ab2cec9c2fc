use Rattle.fishdavit.proofs.Small.{small_laws, same_outcome}
use borrow.Author.Rules.{rules}
use Rattle.fishdavit.proofs.fishdavit_read.Goals as goal

pub told-requires : goal.told-requires
told-requires c = search small_laws

pub returns : goal.returns
returns c = search (same_outcome, rules)
