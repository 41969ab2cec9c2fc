-- What a read says has no line past 1,058. Assumes nothing.
use Prim.Native.Nat.{ℕ, ◌≤◌}
use mathlib.Core.Path.{◌≡◌, refl}
use mathlib.Core.Bool.{Bool, true, false}
use mathlib.Core.List.{List}
use native.Mathlib.Omega.{arith}
use lib.Dec.{eqb, ltb}
use lib.ListN.{length}
use Rattle.std.specs.Prelude.{if◌then◌else◌}
use Rattle.image.specs.Limits.{most_lines}
use Rattle.image.specs.Judge.{Said, say, judged}
use Rattle.image.proofs.Accepted.{few_lines}
use Rattle.lines.specs.Text.{frames, more, settled, outcome, read_as, reading}

settled_line : (m : Bool) (s : Said) → (settled m s).line ≡ s.line
unfolding settled
settled_line false s = refl
settled_line true s = by (eqb s.number 0) (eqb s.number 6)
  where
    by : (z x : Bool) → (if z then say 7 s.line else (if x then say 1 s.line else s)).line ≡ s.line
    by true x = refl
    by false true = refl
    by false false = refl

pub read_few : (bs table : List ℕ) → (reading bs table).says.line ≤ most_lines
unfolding reading
read_few bs table = by_room (ltb (length table) most_lines)
  where
    by_room : (b : Bool) → (if b then outcome (say 8 0) table else read_as (settled (more bs) (judged (frames bs))) (frames bs) table).says.line ≤ most_lines
    by_room true = omega arith
    by_room false = omega (arith, settled_line (more bs) (judged (frames bs)), few_lines (frames bs))
