-- Reading an accepted image and writing it undo each other, both ways round, given room.
use Rattle.std.specs.Prelude.{ℕ, ◌^◌, ◌≤◌, ◌<◌, ◌≡◌, List, [], ◌∷◌, length, take}
use Rattle.laws.specs.Lists.{over}
use Rattle.image.specs.Limits.{most_lines}
use Rattle.image.specs.Judge.{say, judged}
use Rattle.lines.specs.Text.{reading, writing, outcome}

-- the words of a table are 64-bit numbers
abbrev pub Words : List ℕ → Type 0
Words [] = Unit {0}
Words (f ∷ fs) = (f < 2 ^ 64) × Words fs

pub record Undo : Type 0 where
  -- what a write that was done left, read into a table with room, gives the words of the table that was written
  pub written_read : (fs bytes table : List ℕ) (n : ℕ) → Words fs → (writing fs bytes).says ≡ say 0 n → most_lines ≤ length table → reading (take n (writing fs bytes).buffer) table ≡ outcome (judged fs) (over fs table)
  -- what a read that was done left, written into bytes with room, gives the bytes that were read
  pub read_written : (bytes table out : List ℕ) (n : ℕ) → (reading bytes table).says ≡ say 0 n → length bytes ≤ length out → writing (take n (reading bytes table).buffer) out ≡ outcome (say 0 (length bytes)) (over bytes out)
