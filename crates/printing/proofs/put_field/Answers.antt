use Rattle.printing.proofs.Puts.{field_put}
use borrow.Author.Rules.{rules}
use Rattle.printing.proofs.put_field.Goals as goal

pub returns : goal.returns
returns c = search (field_put, rules)
