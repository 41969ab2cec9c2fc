-- The lines of an image, reading and writing.
use Rattle.std.specs.Prelude.{ℕ, zero, suc, ◌+◌, ◌*◌, Bool, true, false, List, [], ◌∷◌, ◌++◌, eqb, ltb, length, get_or, if◌then◌else◌, Option, None, Some}
use Rattle.laws.specs.Lists.{over}
use Rattle.hexadecimal.specs.Hex.{number_at, hex}
use Rattle.image.specs.Limits.{most_lines}
use Rattle.image.specs.Judge.{Said, say, judged}

-- the line that begins at byte `at`: "sixteen digits 0-9a-f, then byte 0a"
unfoldable pub line_at : List ℕ → ℕ → Option ℕ
line_at bs at = if eqb (get_or bs (at + 16) 0) 0x0a then number_at bs at 16 else None

-- the frames of the lines from line i on, at most n, up to the first that is malformed
abbrev pub before : Option ℕ → List ℕ → List ℕ
before (Some f) fs = f ∷ fs
before None fs = []

unfoldable pub frames_from : List ℕ → (i n : ℕ) → List ℕ
frames_from bs i zero = []
frames_from bs i (suc n) = before (line_at bs (17 * i)) (frames_from bs (suc i) n)

-- all of them: there are no more lines than bytes
unfoldable pub frames : List ℕ → List ℕ
frames bs = frames_from bs 0 (length bs)

-- bytes are left after those lines
unfoldable pub more : List ℕ → Bool
more bs = ltb (17 * length (frames bs)) (length bs)

-- what is left is "1 line: a line isn't sixteen digits and 0a; also a last part without 0a" where a frame is due, and
-- "bytes past the last due frame are 7 and aren't looked at"
unfoldable pub settled : Bool → Said → Said
settled false s = s
settled true s =
    if eqb s.number 0 then say 7 s.line else (if eqb s.number 6 then say 1 s.line else s)

-- what is answered, and the lent buffer afterwards
pub record Outcome : Type 0 where
  pub says : Said
  pub buffer : List ℕ

abbrev pub outcome : Said → List ℕ → Outcome
outcome s l = record { says = s; buffer = l }

-- "A refusal (1 to 9) changes no buffer. A read fills as many words as there are lines"
abbrev pub read_as : Said → List ℕ → List ℕ → Outcome
read_as s fs table = outcome s (if eqb s.number 0 then over fs table else table)

-- "Reading: 8 first (a table under 1,058 words), then the first faulty line"; "8 is at line 0"
unfoldable pub reading : (bytes table : List ℕ) → Outcome
reading bytes table =
    if ltb (length table) most_lines then outcome (say 8 0) table
    else read_as (settled (more bytes) (judged (frames bytes))) (frames bytes) table

-- the line of a frame; the lines of a table
unfoldable pub line : ℕ → List ℕ
line f = hex 16 f ++ 0x0a ∷ []

unfoldable pub text : List ℕ → List ℕ
text [] = []
text (f ∷ fs) = line f ++ text fs

-- "Writing: 2 to 7, then 8 (under 17 bytes a frame)"; "a write as many bytes as it needs, and each answers 0 with that count"
unfoldable pub writing : (table bytes : List ℕ) → Outcome
writing table bytes =
    if eqb (judged table).number 0
    then (if ltb (length bytes) (17 * length table) then outcome (say 8 0) bytes
    else outcome (say 0 (17 * length table)) (over (text table) bytes))
    else outcome (judged table) bytes
