use Rattle.writer.proofs.Whole.{line_put}
use borrow.Author.Rules.{rules}
use Rattle.writer.proofs.put_line.Goals as goal

pub returns : goal.returns
returns c = search (line_put, rules)
