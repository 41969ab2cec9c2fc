use Rattle.std.proofs.Common.{rules}
use Rattle.writer.proofs.Whole.{write_room, write_done}
use Rattle.writer.proofs.write.Goals as goal

pub returns-then-bytes-table : goal.returns-then-bytes-table
returns-then-bytes-table c = let e = c.in_ok-judge.ensures in search (write_room, rules)

pub returns : goal.returns
returns c = let e = c.in_ok-judge.ensures in search (write_done, rules)
