use Rattle.std.proofs.Common.{◌≤◌, ◌+◌, ◌≡◌, length}
use Rattle.image.specs.Layout.{first}
use Rattle.image.specs.Judge.{rest}
use Rattle.judge.proofs.judge_instructions.Given as goal

abbrev pub invariant-loop-k : goal.invariant-loop-k
invariant-loop-k l = (l.line ≡ first l.table l.k) × (l.line ≤ length l.table) × (rest l.table (1 + l.bodies) ≡ rest l.table l.line)
