-- Laws of reading as a whole, as the code's returns have them. Assumes nothing.
use Prim.Native.Nat.{ℕ, ◌*◌, ◌≤◌, ◌<◌}
use mathlib.Core.Path.{◌≡◌, refl, sym, ap, ◌∙◌}
use mathlib.Core.Bool.{Bool, true, false}
use mathlib.Core.List.{List}
use native.Mathlib.Omega.{arith}
use borrow.Author.Tests.{lt-ltb, le-ltb, eqb-true}
use lib.Dec.{eqb, ltb}
use lib.ListN.{length, take}
use lib.Seq.{length-take-le}
use Rattle.std.specs.Prelude.{if◌then◌else◌}
use Rattle.laws.specs.Lists.{over}
use Rattle.image.specs.Limits.{most_lines}
use Rattle.image.specs.Judge.{Said, say, judged}
use Rattle.lines.specs.Text.{frames_from, frames, more, settled, Outcome, outcome, read_as, reading}
use Rattle.reader.specs.Steps.{Decoded}
use Rattle.lines.proofs.Cap.{same_answer, same_frames}

-- reading as a whole
pub read_room : (bs table : List ℕ) → length table < most_lines → outcome (say 8 0) table ≡ reading bs table
unfolding reading
read_room bs table h = rw (lt-ltb (length table) most_lines h)

-- the frames matter only where the answer is 0
read_as_same : (s : Said) (fs gs table : List ℕ) (b : Bool) → eqb s.number 0 ≡ b → (s.number ≡ 0 → fs ≡ gs) → outcome s (if b then over fs table else table) ≡ outcome s (if b then over gs table else table)
read_as_same s fs gs table true e f = ap (λ (l : List ℕ). outcome s (over l table)) (f (eqb-true s.number 0 e))
read_as_same s fs gs table false e f = refl

pub read_done : (bs ws table : List ℕ) (n : ℕ) (j a : Said) (o : Outcome) → most_lines ≤ length table → Decoded bs ws n → length ws ≡ most_lines → j ≡ judged (take n ws) → a ≡ settled (ltb (17 * n) (length bs)) j → o ≡ read_as a (take n ws) table → o ≡ reading bs table
unfolding reading
read_done bs ws table n j a o g d w p q e =
    let l : take n ws ≡ frames_from bs 0 most_lines = d.lines ∙ ap (frames_from bs 0) w in
    let m : n ≡ length (frames_from bs 0 most_lines) = sym (length-take-le n ws d.within) ∙ ap length l in
    let x : a ≡ settled (more bs) (judged (frames bs)) = rw (q, p, l, m) (sym (same_answer bs)) in
    let f : a.number ≡ 0 → take n ws ≡ frames bs = λ z. l ∙ sym (same_frames bs (ap (λ (r : Said). r.number) (sym x) ∙ z)) in
    rw (le-ltb (length table) most_lines g, ← x) (e ∙ read_as_same a (take n ws) (frames bs) table (eqb a.number 0) refl f)

pub ruleset read_laws = (read_room, read_done)

pub part_fits : (bs ws : List ℕ) (n m : ℕ) → Decoded bs ws n → length ws ≡ most_lines → most_lines ≤ m → length (take n ws) ≤ m
part_fits bs ws n m d w g = omega (arith, length-take-le n ws d.within, d.within)

pub part_counted : (bs ws : List ℕ) (n : ℕ) → Decoded bs ws n → n ≡ length (take n ws)
part_counted bs ws n d = sym (length-take-le n ws d.within)
