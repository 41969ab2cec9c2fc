use Rattle.hexadecimal.specs.Laws.{hex_end}
use borrow.Author.Rules.{rules}
use Rattle.hexadecimal.proofs.spell_at.Goals as goal

pub returns : goal.returns
returns c = search (hex_end, rules)
