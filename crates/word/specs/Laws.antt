-- The rules of the arithmetic, over the width w in bits. proofs/Shown.antt has them for every width from 1 on.
use Rattle.std.specs.Prelude.{ℕ, ◌+◌, ◌-◌, ◌*◌, ◌/◌, ◌%◌, ◌^◌, ◌<◌, ◌≡◌, Bool, true, false, ◌↔◌, ◌⊎◌, ℤ, pos, negsuc, neg_ℤ, nat_abs, ◌+ℤ◌, ◌-ℤ◌, ◌*ℤ◌}
use Rattle.std.specs.Int.Signed.{non_neg}
use Rattle.word.specs.Word.{Result, value, stop, add_u, sub_u, mul_u, quot_u, rem_u, signed, bits_of, in_range, add_s, sub_s, mul_s, quot_s, rem_s, and_b, or_b, not_b, flag}

-- w bits and the numbers of the range stand for each other
pub record Complement (w : ℕ) : Type 0 where
  pub read_in_range : (x : ℕ) → x < 2 ^ w → in_range w (signed w x) ≡ true
  pub read_and_written : (x : ℕ) → x < 2 ^ w → bits_of w (signed w x) ≡ x
  pub written_in_bits : (z : ℤ) → in_range w z ≡ true → bits_of w z < 2 ^ w
  pub written_and_read : (z : ℤ) → in_range w z ≡ true → signed w (bits_of w z) ≡ z

-- w bits hold the value that a result gives
abbrev pub Holds : ℕ → Result → Type 0
Holds w (value v) = v < 2 ^ w
Holds w (stop n) = Unit {0}

-- so they do for each operation on x and y; a comparison gives a flag
pub record Held (w x y : ℕ) : Type 0 where
  pub sum : add_u w x y < 2 ^ w
  pub difference : sub_u w x y < 2 ^ w
  pub product : mul_u w x y < 2 ^ w
  pub quotient : Holds w (quot_u x y)
  pub remainder : Holds w (rem_u x y)
  pub signed_sum : Holds w (add_s w x y)
  pub signed_difference : Holds w (sub_s w x y)
  pub signed_product : Holds w (mul_s w x y)
  pub signed_quotient : Holds w (quot_s w x y)
  pub signed_remainder : Holds w (rem_s w x y)
  pub bitwise_and : and_b w x y < 2 ^ w
  pub bitwise_or : or_b w x y < 2 ^ w
  pub bitwise_not : not_b w x < 2 ^ w
  pub comparison : (b : Bool) → flag b < 2 ^ w

-- a signed result stands for the exact number z, or is 15 exactly where z is out of range
pub record Exact (w : ℕ) (z : ℤ) (r : Result) : Type 0 where
  pub stands_for : (v : ℕ) → r ≡ value v → signed w v ≡ z
  pub stops : (r ≡ stop 15) ↔ (in_range w z ≡ false)
  pub no_other : (n : ℕ) → r ≡ stop n → n ≡ 15

-- the least number of the range by -1
abbrev pub LeastByMinusOne : (w x y : ℕ) → Type 0
LeastByMinusOne w x y = (signed w x ≡ neg_ℤ (pos (2 ^ (w - 1)))) × (signed w y ≡ negsuc 0)

-- a signed quotient or remainder is 14 exactly for the divisor 0, and 15 exactly for the least number by -1
pub record Stops (w x y : ℕ) (r : Result) : Type 0 where
  pub zero_divisor : (r ≡ stop 14) ↔ (y ≡ 0)
  pub out_of_range : (r ≡ stop 15) ↔ LeastByMinusOne w x y

-- otherwise both are given: dividend = quotient * divisor + remainder
pub record Divided (w x y : ℕ) : Type 0 where
  pub quotient : ℕ
  pub remainder : ℕ
  pub gives_quotient : quot_s w x y ≡ value quotient
  pub gives_remainder : rem_s w x y ≡ value remainder
  pub whole : signed w x ≡ signed w quotient *ℤ signed w y +ℤ signed w remainder
  pub small : nat_abs (signed w remainder) < nat_abs (signed w y)
  pub like_dividend : (signed w remainder ≡ pos 0) ⊎ (non_neg (signed w remainder) ≡ non_neg (signed w x))

-- unsigned: 14 exactly for the divisor 0, and otherwise dividend = quotient * divisor + remainder
pub record Unsigned (x y : ℕ) : Type 0 where
  pub quotient_stops : (quot_u x y ≡ stop 14) ↔ (y ≡ 0)
  pub remainder_stops : (rem_u x y ≡ stop 14) ↔ (y ≡ 0)
  pub divided : (y ≡ 0 → ⊥) → (quot_u x y ≡ value (x / y)) × (rem_u x y ≡ value (x % y)) × (x ≡ x / y * y + x % y) × (x % y < y)

pub record Rules (w : ℕ) : Type 0 where
  pub complement : Complement w
  pub held : (x y : ℕ) → x < 2 ^ w → y < 2 ^ w → Held w x y
  pub sum : (x y : ℕ) → Exact w (signed w x +ℤ signed w y) (add_s w x y)
  pub difference : (x y : ℕ) → Exact w (signed w x -ℤ signed w y) (sub_s w x y)
  pub product : (x y : ℕ) → Exact w (signed w x *ℤ signed w y) (mul_s w x y)
  pub quotient : (x y : ℕ) → x < 2 ^ w → y < 2 ^ w → Stops w x y (quot_s w x y)
  pub remainder : (x y : ℕ) → x < 2 ^ w → y < 2 ^ w → Stops w x y (rem_s w x y)
  pub divided : (x y : ℕ) → x < 2 ^ w → y < 2 ^ w → (y ≡ 0 → ⊥) → (LeastByMinusOne w x y → ⊥) → Divided w x y
  pub unsigned : (x y : ℕ) → Unsigned x y
