-- The machine's and, or are those of the definitions, bit by bit. Assumes nothing.
use mathlib.Core.Path.{◌≡◌, ap, ◌∙◌}
use Prim.Native.Nat.{ℕ, zero, suc, min, max, ◌+◌, ◌*◌, ◌/◌, ◌%◌, ◌^◌, ◌<◌}
use native.Mathlib.Omega.{arith}
use native.Mathlib.Nat.{pow-suc}
use lib.Bits.{bit_and, and_step, and_zero_l, bit_or, or_step, or_zero_l}
use Rattle.word.specs.Word.{bitwise, and_b, or_b}

-- for an operation g that goes bit by bit by f and is 0 at 0
module _ (g f : ℕ → ℕ → ℕ) (step : (a b : ℕ) → g a b ≡ g (a / 2) (b / 2) * 2 + f (a % 2) (b % 2)) (none : g 0 0 ≡ 0) where
  pub by_bits : (k a b : ℕ) → a < 2 ^ k → b < 2 ^ k → g a b ≡ bitwise f k a b
  unfolding bitwise
  by_bits zero a b h l =
      let p : a ≡ 0 = omega arith in
      let q : b ≡ 0 = omega arith in
      rw (p, q) none
  by_bits (suc k) a b h l =
      step a b
      ∙ ap (λ (n : ℕ). n * 2 + f (a % 2) (b % 2))
      (by_bits k (a / 2) (b / 2) (omega (arith, rw (pow-suc 2 k) at h)) (omega (arith, rw (pow-suc 2 k) at l)))

pub and_is : (a b : ℕ) → a < 2 ^ 32 → b < 2 ^ 32 → bit_and a b ≡ and_b 32 a b
unfolding and_b
and_is = by_bits bit_and min and_step (and_zero_l 0) 32

pub or_is : (a b : ℕ) → a < 2 ^ 32 → b < 2 ^ 32 → bit_or a b ≡ or_b 32 a b
unfolding or_b
or_is = by_bits bit_or max or_step (or_zero_l 0) 32
