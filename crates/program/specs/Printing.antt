-- "It prints number, body, place or line, time, instructions, choices, inputs, threads not ended, as 2, 2, 4, 8, 8, 4, 4, 4 digits with one
-- space between; then, unless refused, each of the C cells as eight digits on a line."
use Rattle.std.specs.Prelude.{ℕ, ◌+◌, ◌*◌, List, [], ◌∷◌, ◌++◌, if◌then◌else◌}
use Rattle.laws.specs.Choice.{between}
use Rattle.hexadecimal.specs.Hex.{hex}
use Rattle.image.specs.Limits.{most_cells}
use Rattle.kernel.specs.Run.{Answer, refused}

-- x "as n digits", and the byte after them: "with one space between", or 0a at a line's end
unfoldable pub field : (n x end : ℕ) → List ℕ
field n x end = hex n x ++ end ∷ []

-- "number, body, place or line, time"
unfoldable pub stop_fields : Answer → List ℕ
stop_fields a = field 2 a.number 0x20 ++ field 2 a.body 0x20 ++ field 4 a.place 0x20 ++ field 8 a.time 0x20

-- "instructions, choices, inputs, threads not ended"
unfoldable pub count_fields : Answer → List ℕ
count_fields a =
    field 8 a.instructions 0x20 ++ field 4 a.choices 0x20 ++ field 4 a.inputs 0x20 ++ field 4 a.threads 0x0a

unfoldable pub answer_line : Answer → List ℕ
answer_line a = stop_fields a ++ count_fields a

-- "each of the C cells as eight digits on a line"
unfoldable pub cell_lines : List ℕ → List ℕ
cell_lines [] = []
cell_lines (x ∷ xs) = field 8 x 0x0a ++ cell_lines xs

-- "unless refused": "A refusal (1 to 9)"
unfoldable pub shown : Answer → (cells : List ℕ) → List ℕ
shown a cells = answer_line a ++ (if between 1 a.number 9 then [] else cell_lines cells)

-- "Refusals give ff, the line, and zeros."
abbrev pub refusal : (number line : ℕ) → List ℕ
refusal n i = shown (refused n i []).answer []

-- how long the longest answer is: the answer's line, and a line for each of 256 cells
abbrev pub most_printed : ℕ
most_printed = 44 + 9 * most_cells
