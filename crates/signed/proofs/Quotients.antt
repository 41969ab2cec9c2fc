-- What the two signed divisions ask and give, once for both: f is the quotient or the remainder. Assumes nothing.
use mathlib.Core.Path.{◌≡◌, refl, sym, ap, ◌∙◌, subst}
use mathlib.Core.Bool.{Bool, true, false}
use Prim.Native.Nat.{ℕ, ◌^◌, ◌<◌}
use native.Mathlib.Nat.{le_refl, lt_of_le_of_lt}
use native.Mathlib.Omega.{arith}
use borrow.Author.Tests.{eq-eqb, ne_eqb}
use lib.IntN.{ℤ}
use lib.Signed.{mag, lt_z, le_z, quot_z, rem_z, mag_rem}
use mir.Syntax.{w32}
use mir.Val.{to_z, of_z, bool_byte, Fits, SFits}
use Rattle.std.specs.Prelude.{Result as Answer, Ok, Err}
use Rattle.word.specs.Said.{said, number_of}
use Rattle.word.specs.Word.{value, stop, signed, bits_of, in_range, division_s, flag, lt_s, le_s}
use Rattle.word.specs.declared.ArithmeticError.{ArithmeticError}
use Rattle.word.specs.TwosComplement.{bound_in}
use Rattle.word.proofs.Machine.{magnitude, written}
use Rattle.word.proofs.Operands.{read_both, asks, gives}

-- a quotient in range is one, and so is its remainder
abbrev pub Keeps : (ℤ → ℤ → ℤ) → Type 0
Keeps f = (p d : ℤ) → mag p < 2 ^ 31 → mag (quot_z p d) < 2 ^ 31 → mag (f p d) < 2 ^ 31

pub quotient_keeps : Keeps quot_z
quotient_keeps p d h k = k

pub remainder_keeps : Keeps rem_z
remainder_keeps p d h k = lt_of_le_of_lt (mag_rem p d) h

-- a zero divisor stops both
pub zero_divisor : (x y : ℕ) → y ≡ 0 → (f : ℤ → ℤ → ℤ) → stop 14 ≡ division_s f 32 x y
unfolding division_s
zero_divisor x y e f = rw (eq-eqb y 0 e)

-- two cells x and y, their numbers a and b, and what the test t of the quotient says
module _ (x y : ℕ) (a b : ℤ) (fx : Fits w32 x) (fy : Fits w32 y) (ea : a ≡ signed 32 x) (eb : b ≡ signed 32 y) where
  module _ (t : Bool) (et : t ≡ in_range 32 (quot_z (to_z w32 (of_z w32 a)) (to_z w32 (of_z w32 b)))) where
    tested : in_range 32 (quot_z (signed 32 x) (signed 32 y)) ≡ t
    tested = ap (in_range 32) (sym (read_both w32 (le_refl _) fx fy ea eb quot_z)) ∙ sym et

    pub tested_in : t ≡ true → in_range 32 (quot_z (signed 32 x) (signed 32 y)) ≡ true
    tested_in e = tested ∙ e

    pub out_of_range : (y ≡ 0 → ⊥) → t ≡ false → (f : ℤ → ℤ → ℤ) → stop 15 ≡ division_s f 32 x y
    unfolding division_s
    out_of_range n e f = rw (ne_eqb y 0 n, tested ∙ e)

  -- where the quotient is in range, what is asked and what is given
  module _ (n : y ≡ 0 → ⊥) (e : in_range 32 (quot_z (signed 32 x) (signed 32 y)) ≡ true) where
    pub dividable : (0 < of_z w32 b) × SFits w32 (quot_z (to_z w32 (of_z w32 a)) (to_z w32 (of_z w32 b)))
    dividable =
        (subst (λ (k : ℕ). 0 < k) (sym (ap (of_z w32) eb ∙ written y fy)) (omega arith), asks w32 (le_refl _) fx fy ea eb quot_z (record { sfits = bound_in 32 _ e }))

    pub given : (f : ℤ → ℤ → ℤ) → Keeps f → (v : ℕ) → v ≡ bits_of 32 (to_z w32 (of_z w32 (f (to_z w32 (of_z w32 a)) (to_z w32 (of_z w32 b))))) → said (Ok v) ≡ division_s f 32 x y
    unfolding said division_s
    given f keeps v q =
        rw (ne_eqb y 0 n, e)
        (ap value (q ∙ ap (bits_of 32) (gives w32 (le_refl _) fx fy ea eb f (record { sfits = keeps _ _ (magnitude x fx) (bound_in 32 _ e) }))))

-- and what stops both is handed on
pub refused : (f : ℤ → ℤ → ℤ) (x y : ℕ) (r : Answer ℕ ArithmeticError) (e : ArithmeticError) → r ≡ Err e → stop (number_of e) ≡ division_s f 32 x y → said r ≡ division_s f 32 x y
unfolding said
refused f x y r e q s = rw q s

-- the two comparisons
flagged : (b : Bool) → bool_byte b ≡ flag b
flagged true = refl
flagged false = refl

module _ (x y : ℕ) (a b : ℤ) (r : ℕ) (fx : Fits w32 x) (fy : Fits w32 y) (ea : a ≡ signed 32 x) (eb : b ≡ signed 32 y) where
  pub less : r ≡ bool_byte (lt_z (to_z w32 (of_z w32 a)) (to_z w32 (of_z w32 b))) → r ≡ lt_s 32 x y
  unfolding lt_s
  less e = e ∙ flagged _ ∙ ap flag (read_both w32 (le_refl _) fx fy ea eb lt_z)

  pub at_most : r ≡ bool_byte (le_z (to_z w32 (of_z w32 a)) (to_z w32 (of_z w32 b))) → r ≡ le_s 32 x y
  unfolding le_s
  at_most e = e ∙ flagged _ ∙ ap flag (read_both w32 (le_refl _) fx fy ea eb le_z)
