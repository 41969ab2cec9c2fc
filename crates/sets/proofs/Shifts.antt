-- What the machine's shifts give in the words of the definitions, below the width and from it on; and that a count of bits fits. Assumes nothing.
use Prim.Native.Nat.{ℕ, ◌-◌, ◌*◌, ◌/◌, ◌%◌, ◌^◌, ◌≤◌, ◌<◌}
use mathlib.Core.Path.{◌≡◌, ap}
use native.Mathlib.Nat.{one-mul, mod-eq_of_lt}
use borrow.Author.Tests.{lt-ltb, le-ltb}
use lib.Bits.{bit_and, and_mask}
use lib.Pow.{pow-lt}
use lib.Dec.{eqb}
use Rattle.sets.specs.Sets.{has, single, below}

-- a 1 that is shifted by less than the width stays in it
pub shifted : (i : ℕ) → i < 32 → 1 * 2 ^ i % 4294967296 ≡ 2 ^ i
shifted i l = rw (one-mul (2 ^ i)) (mod-eq_of_lt (pow-lt {i = i} {j = 32} l))

pub tested : (s i : ℕ) → eqb (bit_and (s / 2 ^ i) 1) 1 ≡ has s i
unfolding has
tested s i = ap (λ (n : ℕ). eqb n 1) (and_mask (s / 2 ^ i) 1)

pub single_in : (i : ℕ) → i < 32 → 1 * 2 ^ i % 4294967296 ≡ single i
unfolding single
single_in i l = rw (lt-ltb i 32 l) (shifted i l)

pub single_past : (i : ℕ) → 32 ≤ i → 0 ≡ single i
unfolding single
single_past i l = rw (le-ltb i 32 l)

pub below_in : (n : ℕ) → n < 32 → 1 * 2 ^ n % 4294967296 - 1 ≡ below n
unfolding below
below_in n l = rw (lt-ltb n 32 l) (ap (λ (k : ℕ). k - 1) (shifted n l))

pub below_past : (n : ℕ) → 32 ≤ n → 4294967295 ≡ below n
unfolding below
below_past n l = rw (le-ltb n 32 l)
