-- The arithmetic of cells: document 01, "Instructions", over the width w of a cell in bits. A cell is the number that its bits make, below 2 ^ w.
use Rattle.std.specs.Prelude.{ℕ, zero, suc, min, max, ◌+◌, ◌-◌, ◌*◌, ◌/◌, ◌%◌, ◌^◌, Bool, true, false, not, ◌&&◌, eqb, ltb, leb, ℤ, pos, negsuc, neg_ℤ, ◌+ℤ◌, ◌-ℤ◌, ◌*ℤ◌, if◌then◌else◌}
use Rattle.std.specs.Int.Signed.{lt_z, le_z, quot_z, rem_z}

-- "Numbers returned": a value for the cell, or the number that the run stops with
pub data Result : Type 0 where
  value : ℕ → Result
  stop : ℕ → Result

-- 10, 11, 12: "unsigned a + b, a - b, a * b modulo 2^32"; the difference is taken of x + 2 ^ w, so that it is never below 0
unfoldable pub add_u : (w x y : ℕ) → ℕ
add_u w x y = (x + y) % 2 ^ w

unfoldable pub sub_u : (w x y : ℕ) → ℕ
sub_u w x y = ((x + 2 ^ w) - y) % 2 ^ w

unfoldable pub mul_u : (w x y : ℕ) → ℕ
mul_u w x y = (x * y) % 2 ^ w

-- 13, 14: "quotient; remainder", and 14 for a "zero divisor"
unfoldable pub quot_u : (x y : ℕ) → Result
quot_u x y = if eqb y 0 then stop 14 else value (x / y)

unfoldable pub rem_u : (x y : ℕ) → Result
rem_u x y = if eqb y 0 then stop 14 else value (x % y)

-- "Signed values are two's complement": the number that w bits stand for
unfoldable pub signed : (w x : ℕ) → ℤ
signed w x = if ltb x (2 ^ (w - 1)) then pos x else (pos x -ℤ pos (2 ^ w))

-- and the bits that stand for a number; negsuc n is -(n + 1)
unfoldable pub bits_of : (w : ℕ) → ℤ → ℕ
bits_of w (pos n) = n
bits_of w (negsuc n) = 2 ^ w - suc n

-- whether w bits stand for a number: -2 ^ (w - 1) ≤ z < 2 ^ (w - 1)
unfoldable pub in_range : (w : ℕ) → ℤ → Bool
in_range w z = le_z (neg_ℤ (pos (2 ^ (w - 1)))) z && lt_z z (pos (2 ^ (w - 1)))

-- 15: "signed result outside its range"
unfoldable pub narrow : (w : ℕ) → ℤ → Result
narrow w z = if in_range w z then value (bits_of w z) else stop 15

-- 18 to 1c: "the same five, signed"
unfoldable pub add_s : (w x y : ℕ) → Result
add_s w x y = narrow w (signed w x +ℤ signed w y)

unfoldable pub sub_s : (w x y : ℕ) → Result
sub_s w x y = narrow w (signed w x -ℤ signed w y)

unfoldable pub mul_s : (w x y : ℕ) → Result
mul_s w x y = narrow w (signed w x *ℤ signed w y)

-- "14, 15: zero divisor; signed result outside its range, -2^31 by -1 included, quotient and remainder": f is either, and both are given only
-- where the quotient is in range
unfoldable pub division_s : (f : ℤ → ℤ → ℤ) (w x y : ℕ) → Result
division_s f w x y =
    if eqb y 0 then stop 14
    else (if in_range w (quot_z (signed w x) (signed w y)) then value (bits_of w (f (signed w x) (signed w y))) else stop 15)

-- "Quotients go toward zero; a remainder has the sign of the dividend": so do quot_z and rem_z
unfoldable pub quot_s : (w x y : ℕ) → Result
quot_s w x y = division_s quot_z w x y

unfoldable pub rem_s : (w x y : ℕ) → Result
rem_s w x y = division_s rem_z w x y

-- 20, 21, 22: "bitwise and, or of a, b; complement of a"; the lowest k bits one by one, f of two bits being the bit
unfoldable pub bitwise : (f : ℕ → ℕ → ℕ) (k x y : ℕ) → ℕ
bitwise f zero x y = 0
bitwise f (suc k) x y = bitwise f k (x / 2) (y / 2) * 2 + f (x % 2) (y % 2)

unfoldable pub and_b : (w x y : ℕ) → ℕ
and_b w x y = bitwise min w x y

unfoldable pub or_b : (w x y : ℕ) → ℕ
or_b w x y = bitwise max w x y

unfoldable pub not_b : (w x : ℕ) → ℕ
not_b w x = (2 ^ w - 1) - x

-- 28 to 2d: "1 or 0 for a = b, a ≠ b, unsigned <, ≤, signed <, ≤"
abbrev pub flag : Bool → ℕ
flag true = 1
flag false = 0

unfoldable pub equal : (x y : ℕ) → ℕ
equal x y = flag (eqb x y)

unfoldable pub differ : (x y : ℕ) → ℕ
differ x y = flag (not (eqb x y))

unfoldable pub lt_u : (x y : ℕ) → ℕ
lt_u x y = flag (ltb x y)

unfoldable pub le_u : (x y : ℕ) → ℕ
le_u x y = flag (leb x y)

unfoldable pub lt_s : (w x y : ℕ) → ℕ
lt_s w x y = flag (lt_z (signed w x) (signed w y))

unfoldable pub le_s : (w x y : ℕ) → ℕ
le_s w x y = flag (le_z (signed w x) (signed w y))

-- 2e: "1 if a is 0, else 0"
unfoldable pub is_zero : (x : ℕ) → ℕ
is_zero x = flag (eqb x 0)
