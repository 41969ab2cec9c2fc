-- "All digits are lower-case hexadecimal, printed ones too."
use Rattle.std.specs.Prelude.{ℕ, zero, suc, ◌+◌, ◌-◌, ◌*◌, ◌/◌, ◌%◌, Bool, true, ◌&&◌, List, [], ◌∷◌, ◌++◌, ltb, leb, length, get_or, Option, None, Some, if◌then◌else◌}
use Rattle.std.proofs.lemmas.List.Edits.{sets}
use Rattle.laws.specs.Choice.{between}

-- "digits 0-9a-f": what a byte stands for; 16 where it is no digit
unfoldable pub digit_value : ℕ → ℕ
digit_value b = if between 0x30 b 0x39 then b - 0x30 else (if between 0x61 b 0x66 then b - 0x57 else 16)

-- are the n bytes from `at` on digits (a missing byte is none)
unfoldable pub digits : List ℕ → (at n : ℕ) → Bool
digits bs at zero = true
digits bs at (suc n) = digits bs at n && ltb (digit_value (get_or bs (at + n) 0)) 16

-- the number that they stand for, the high digit first
unfoldable pub value : List ℕ → (at n : ℕ) → ℕ
value bs at zero = 0
value bs at (suc n) = value bs at n * 16 + digit_value (get_or bs (at + n) 0)

-- what n bytes from `at` on give: a number where they are there, at most sixteen, and all digits
unfoldable pub number_at : List ℕ → (at n : ℕ) → Option ℕ
number_at bs at n =
    if leb n 16 && leb (at + n) (length bs) && digits bs at n then Some (value bs at n) else None

-- the digit of a value below 16
unfoldable pub digit_of : ℕ → ℕ
digit_of v = if ltb v 10 then 0x30 + v else 0x57 + v

-- the low n digits of x, the high digit first
unfoldable pub hex : (n x : ℕ) → List ℕ
hex zero x = []
hex (suc n) x = hex n (x / 16) ++ digit_of (x % 16) ∷ []

-- a text with them from `at` on where there is room, and else as it was
unfoldable pub written : (x n : ℕ) → List ℕ → (at : ℕ) → List ℕ
written x n bs at = if leb (at + n) (length bs) then sets bs at (hex n x) else bs
