-- What an operation of the machine asks and gives on two cells read as signed numbers. Assumes nothing.
use mathlib.Core.Path.{◌≡◌, sym, ap, ap₂, ◌∙◌, subst}
use Prim.Native.Nat.{ℕ, zero, suc, ◌+◌, ◌-◌, ◌*◌, ◌^◌, ◌≤◌}
use mathlib.Core.Bool.{Bool, true, false, cond}
use native.Mathlib.Nat.{le_trans, lt_of_lt_of_le, lt_of_le_of_lt, mul-le-mul}
use native.Mathlib.Omega.{arith}
use lib.Dec.{ltb, lit<, lit≤}
use lib.IntN.{ℤ, pos, negsuc, neg_ℤ, ◌+ℤ◌, ◌-ℤ◌, ◌*ℤ◌}
use lib.Signed.{mag}
use mir.Syntax.{Width, w32, w64}
use mir.Val.{to_z, of_z, hbits, Fits, SFits}
use mir.ValLaws.{to_z-of_z}
use Rattle.word.specs.Word.{signed}
use Rattle.word.specs.Division.{mag_minus}
use Rattle.word.proofs.Machine.{magnitude}

-- two locals of a width v that is 32 or more, which hold the numbers of two cells
module _ (v : Width) (room : 2 ^ 31 ≤ 2 ^ hbits v) {x y : ℕ} (fx : Fits w32 x) (fy : Fits w32 y) {a b : ℤ} (ea : a ≡ signed 32 x) (eb : b ≡ signed 32 y) where
  one : {x : ℕ} {a : ℤ} → Fits w32 x → a ≡ signed 32 x → to_z v (of_z v a) ≡ signed 32 x
  one {x = z} f e =
      ap (λ (z : ℤ). to_z v (of_z v z)) e ∙ to_z-of_z v (signed 32 z) (record { sfits = lt_of_lt_of_le (magnitude z f) room })

  pub read_both : {A : Type 0} (f : ℤ → ℤ → A) → f (to_z v (of_z v a)) (to_z v (of_z v b)) ≡ f (signed 32 x) (signed 32 y)
  read_both f = ap₂ f (one fx ea) (one fy eb)

  -- an operation whose result the width holds
  module _ (f : ℤ → ℤ → ℤ) (fits : SFits v (f (signed 32 x) (signed 32 y))) where
    pub asks : SFits v (f (to_z v (of_z v a)) (to_z v (of_z v b)))
    asks = subst (SFits v) (sym (read_both f)) fits

    pub gives : to_z v (of_z v (f (to_z v (of_z v a)) (to_z v (of_z v b)))) ≡ f (signed 32 x) (signed 32 y)
    gives = ap (λ (z : ℤ). to_z v (of_z v z)) (read_both f) ∙ to_z-of_z v (f (signed 32 x) (signed 32 y)) fits

-- 64 bits hold a sum, a difference and a product of two numbers of 32
abbrev pub Roomy : (ℤ → ℤ → ℤ) → Type 0
Roomy f = (x y : ℕ) → Fits w32 x → Fits w32 y → SFits w64 (f (signed 32 x) (signed 32 y))

mag_sub : (a b : ℕ) (t : Bool) → mag (cond t (negsuc (b - suc a)) (pos (a - b))) ≤ a + b
mag_sub a b true = omega arith
mag_sub a b false = omega arith

mag_add : (a b : ℤ) → mag (a +ℤ b) ≤ suc (mag a + mag b)
mag_add (pos a) (pos b) = omega arith
mag_add (pos a) (negsuc b) = omega (arith, mag_sub a (suc b) (ltb a (suc b)))
mag_add (negsuc a) (pos b) = omega (arith, mag_sub b (suc a) (ltb b (suc a)))
mag_add (negsuc a) (negsuc b) = omega arith

mag_neg : (b : ℤ) → mag (neg_ℤ b) ≤ suc (mag b)
mag_neg (pos zero) = omega arith
mag_neg (pos (suc n)) = omega arith
mag_neg (negsuc n) = omega arith

mag_mul : (a b : ℤ) → mag (a *ℤ b) ≤ suc (mag a) * suc (mag b)
mag_mul (pos a) (pos b) = omega arith
mag_mul (pos a) (negsuc b) = omega (arith, mag_minus (a * suc b))
mag_mul (negsuc a) (pos b) = omega (arith, mag_minus (suc a * b))
mag_mul (negsuc a) (negsuc b) = omega arith

pub sum_fits : Roomy ◌+ℤ◌
sum_fits x y fx fy =
    record { sfits = omega (arith, mag_add (signed 32 x) (signed 32 y), magnitude x fx, magnitude y fy) }

pub difference_fits : Roomy ◌-ℤ◌
difference_fits x y fx fy =
    record { sfits = omega (arith, mag_add (signed 32 x) (neg_ℤ (signed 32 y)), mag_neg (signed 32 y), magnitude x fx, magnitude y fy) }

pub product_fits : Roomy ◌*ℤ◌
product_fits x y fx fy =
    record { sfits = lt_of_le_of_lt (le_trans (mag_mul (signed 32 x) (signed 32 y)) (mul-le-mul {n₂ = 2 ^ 31} {m₂ = 2 ^ 31} (magnitude x fx) (magnitude y fy))) (lit< tt) }

-- so an i64 operation asks nothing more of two cells' numbers, and gives the exact result
module _ (f : ℤ → ℤ → ℤ) (roomy : Roomy f) (x y : ℕ) (a b : ℤ) (fx : Fits w32 x) (fy : Fits w32 y) (ea : a ≡ signed 32 x) (eb : b ≡ signed 32 y) where
  pub asked : SFits w64 (f (to_z w64 (of_z w64 a)) (to_z w64 (of_z w64 b)))
  asked = asks w64 (lit≤ tt) fx fy ea eb f (roomy x y fx fy)

  pub exact : to_z w64 (of_z w64 (f (to_z w64 (of_z w64 a)) (to_z w64 (of_z w64 b)))) ≡ f (signed 32 x) (signed 32 y)
  exact = gives w64 (lit≤ tt) fx fy ea eb f (roomy x y fx fy)
