-- Laws of single lines. Assumes nothing.
use Rattle.std.specs.Prelude.{Option, None, Some}
use Prim.Native.Nat.{ℕ, ◌+◌, ◌-◌, ◌≤◌, ◌<◌}
use mathlib.Core.Path.{◌≡◌, refl, sym, ◌∙◌}
use mathlib.Core.Bool.{Bool, true, false}
use mathlib.Core.List.{List}
use native.Mathlib.Omega.{arith}
use borrow.Author.Tests.{ltb-true, ltb-false, eq-eqb, ne_eqb}
use lib.Dec.{ltb}
use lib.ListN.{length, get_or, get_or-eq_default}
use Rattle.hexadecimal.specs.Hex.{number_at}
use Rattle.lines.specs.Text.{line_at}

-- one line
module _ (bs : List ℕ) (at : ℕ) where
  pub line_unended : (get_or bs (at + 16) 0 ≡ 0x0a → ⊥) → None ≡ line_at bs at
  unfolding line_at
  line_unended h = rw (ne_eqb (get_or bs (at + 16) 0) 0x0a h)

  -- a missing byte is 0, and no end of a line
  line_cut : length bs < at + 17 → None ≡ line_at bs at
  line_cut h = line_unended (λ e. absurd (lost (sym (get_or-eq_default bs 0 (omega arith)) ∙ e)))
    where
      lost : ◌≡◌ {A = ℕ} 0 0x0a → ⊥
      lost e = omega arith

  pub line_short : at ≤ length bs → length bs - at < 17 → None ≡ line_at bs at
  line_short l h = line_cut (omega arith)

  pub line_ended : (l : Option ℕ) → get_or bs (at + 16) 0 ≡ 0x0a → l ≡ number_at bs at 16 → l ≡ line_at bs at
  unfolding line_at
  line_ended l h e = rw (eq-eqb (get_or bs (at + 16) 0) 0x0a h) e

  there_by : (x : ℕ) → Some x ≡ line_at bs at → (b : Bool) → ltb (length bs) (at + 17) ≡ b → at + 17 ≤ length bs
  there_by x e false h = ltb-false (length bs) (at + 17) h
  there_by x e true h =
      let m : Some x ≡ None = e ∙ sym (line_cut (ltb-true (length bs) (at + 17) h)) in
      let z : ◌≡◌ {A = ℕ} 0 1 = cc in
      absurd (omega arith)

pub ruleset line_laws = (line_short, line_unended, line_ended)

pub line_there : (bs : List ℕ) (at x : ℕ) (l : Option ℕ) → l ≡ line_at bs at → l ≡ Some x → at + 17 ≤ length bs
line_there bs at x l e g = there_by bs at x (sym g ∙ e) (ltb (length bs) (at + 17)) refl
