use Prim.Native.Nat.{◌≤◌, ◌-◌}
use mathlib.Core.Path.{◌≡◌}
use lib.ListN.{length}
use Rattle.image.specs.Limits.{most_instructions}
use Rattle.image.specs.Layout.{lengths}
use Rattle.image.specs.Judge.{rest}
use Rattle.judge.proofs.judge_bodies.Given as goal

abbrev pub invariant-loop-line : goal.invariant-loop-line
invariant-loop-line l =
    (l.total ≡ lengths l.table (l.line - 1)) × (l.total ≤ most_instructions) × (l.line ≤ length l.table) × (rest l.table 1 ≡ rest l.table l.line)
