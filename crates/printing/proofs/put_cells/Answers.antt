use Rattle.printing.proofs.Puts.{cells_turn, cells_end}
use borrow.Author.Rules.{rules}
use Rattle.printing.proofs.put_cells.Goals as goal

pub loop-i-preserved : goal.loop-i-preserved
loop-i-preserved c = search (cells_turn, rules)

pub returns : goal.returns
returns c = search (cells_end, rules)
