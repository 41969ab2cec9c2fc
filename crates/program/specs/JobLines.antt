-- The lines of a job: "line 0, the budget in eight digits; line 1, the choices, two digits each; line 2, the inputs, eight digits each".
use Rattle.std.specs.Prelude.{ℕ, zero, suc, ◌+◌, ◌*◌, ◌/◌, ◌%◌, Bool, ◌&&◌, List, [], ◌∷◌, eqb, ltb, leb, length, take, drop, if◌then◌else◌, Option, None, Some}
use Rattle.hexadecimal.specs.Hex.{number_at}

-- how long the first line of a text is: the bytes before its 0a, and all where there is none
unfoldable pub line_length : List ℕ → ℕ
line_length [] = 0
line_length (b ∷ bs) = if eqb b 0x0a then 0 else suc (line_length bs)

-- "Each job line ends with 0a."
unfoldable pub ended : List ℕ → Bool
ended text = ltb (line_length text) (length text)

-- what follows that line
abbrev pub after_line : List ℕ → List ℕ
after_line text = drop (line_length text + 1) text

-- the first line and what follows it, where the line is ended
unfoldable pub split_line : List ℕ → Option (List ℕ × List ℕ)
split_line text = if ended text then Some (take (line_length text) text, after_line text) else None

-- "the budget in eight digits"
unfoldable pub budget_of : List ℕ → Option ℕ
budget_of text = if ended text && eqb (line_length text) 8 then number_at text 0 8 else None

-- a number, and those after it
abbrev pub before : Option ℕ → Option (List ℕ) → Option (List ℕ)
before (Some x) (Some xs) = Some (x ∷ xs)
before (Some x) None = None
before None xs = None

-- the k numbers from number i on, "two digits each" or "eight digits each"
unfoldable pub numbers_from : (text : List ℕ) → (digits i k : ℕ) → Option (List ℕ)
numbers_from text n i zero = Some []
numbers_from text n i (suc k) = before (number_at text (n * i) n) (numbers_from text n (suc i) k)

-- all numbers of the first line, which are no more than `most`: "9 job: over 4,096 choices, or over 1,024 inputs; in the program a bad
-- job line"
unfoldable pub numbers_of : (digits most : ℕ) → List ℕ → Option (List ℕ)
numbers_of n most text =
    if ended text && eqb (line_length text % n) 0 && leb (line_length text / n) most
    then numbers_from text n 0 (line_length text / n)
    else None
