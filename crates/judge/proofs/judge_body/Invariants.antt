use Prim.Native.Nat.{◌≤◌}
use mathlib.Core.Path.{◌≡◌}
use lib.ListN.{length}
use Rattle.image.specs.Judge.{rest}
use Rattle.judge.proofs.judge_body.Given as goal

abbrev pub invariant-loop-line : goal.invariant-loop-line
invariant-loop-line l = (l.line ≤ length l.table) × (rest l.table l.at ≡ rest l.table l.line)
