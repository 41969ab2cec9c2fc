-- How far the reading loop has come. Nothing public speaks of it.
use Rattle.std.specs.Prelude.{ℕ, ◌^◌, ◌<◌, ◌≡◌, true, List}
use Rattle.hexadecimal.specs.Hex.{digits, value}

-- the first j digits from byte `at` on are read, and x is their number
pub record Read (bs : List ℕ) (at j x : ℕ) : Type 0 where
  pub good : digits bs at j ≡ true
  pub number : x ≡ value bs at j
  pub small : x < 16 ^ j
