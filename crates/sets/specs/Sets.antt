-- Sets of numbers below 32, each kept as the number whose bits they are.
use Rattle.std.specs.Prelude.{ℕ, ◌-◌, ◌/◌, ◌%◌, ◌^◌, Bool, eqb, ltb, if◌then◌else◌}
use Rattle.std.specs.Int.Bits.{bit_or, bit_and}
use Rattle.std.specs.Int.Count.{count_trailing_zeros}

-- i is in the set s where bit i of s is 1
unfoldable pub has : (s i : ℕ) → Bool
has s i = eqb (s / 2 ^ i % 2) 1

-- of i alone; a number from 32 on is in no set
unfoldable pub single : ℕ → ℕ
single i = if ltb i 32 then 2 ^ i else 0

-- what is in one or the other; in the one and not in the other (of b the lowest 32 bits count, so that every b will do)
unfoldable pub join : (a b : ℕ) → ℕ
join a b = bit_or a b

unfoldable pub minus : (a b : ℕ) → ℕ
minus a b = bit_and a (4294967295 - b % 4294967296)

-- the set with i, and without it
unfoldable pub with : (s i : ℕ) → ℕ
with s i = join s (single i)

unfoldable pub without : (s i : ℕ) → ℕ
without s i = minus s (single i)

-- all numbers below n
unfoldable pub below : ℕ → ℕ
below n = if ltb n 32 then 2 ^ n - 1 else 4294967295

-- the least of a set that is not empty
unfoldable pub least_of : ℕ → ℕ
least_of s = count_trailing_zeros 32 s
