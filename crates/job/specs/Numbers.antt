-- What a line of numbers gave. Nothing public speaks of it.
use Rattle.std.specs.Prelude.{ℕ, ◌≤◌, ◌≡◌, List, length, map, take, Some}
use Rattle.std.specs.Borrow.{Bor}
use Rattle.program.specs.JobLines.{after_line, numbers_of}

-- its numbers, so many, no more than `most`, stand at the start of a list; and what follows the line
abbrev pub Lists : {T : Type 0} → (T → ℕ) → (digits most : ℕ) → (text : List ℕ) → List T → ℕ × Bor (List ℕ) → Type 0
Lists value d most text room p =
    (numbers_of d most text ≡ Some (map value (take p.0 room))) × (p.0 ≤ length room) × (p.1.now ≡ after_line text)
