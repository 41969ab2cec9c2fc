use borrow.Author.Rules.{rules}
use Rattle.writer.proofs.Whole.{text_turn, text_end}
use Rattle.writer.proofs.put_lines.Goals as goal

pub loop-i-preserved : goal.loop-i-preserved
loop-i-preserved c = search (text_turn, rules)

pub returns : goal.returns
returns c = search (text_end, rules)
