use Rattle.printing.proofs.Puts.{answer_put}
use borrow.Author.Rules.{rules}
use Rattle.printing.proofs.put_answer.Goals as goal

pub returns : goal.returns
returns c = search (answer_put, rules)
