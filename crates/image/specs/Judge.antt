-- The judge of a table: the fault of a line, given the lines before it; the first faulty line; what the table's end says.
use Rattle.std.specs.Prelude.{ℕ, zero, suc, ◌+◌, ◌-◌, Bool, ◌&&◌, List, Result, Ok, Err, eqb, ltb, leb, length, if◌then◌else◌}
use Rattle.laws.specs.Choice.{between}
use Rattle.frame.specs.Fault.{instruction_fault}
use Rattle.frame.specs.declared.Frame.{Frame}
use Rattle.image.specs.declared.Refusal.{Refusal}
use Rattle.image.specs.declared.Refusal.TheVariants.{Line, Header, Body, Op, Field, Short, Extra, Room}
use Rattle.image.specs.Limits.{most_threads, most_events, most_updates, most_cells, most_instructions}
use Rattle.image.specs.Layout.{frame, counts, bodies, len, lengths, due, body_at, kind_of}

-- document 01's number, and the line or the count that goes with it
pub record Said : Type 0 where
  pub number : ℕ
  pub line : ℕ

abbrev pub say : (number line : ℕ) → Said
say number line = record { number = number; line = line }

-- what each verdict says
abbrev pub said : Result ℕ Refusal → Said
said (Ok n) = say 0 n
said (Err (Line i)) = say 1 i
said (Err Header) = say 2 0
said (Err (Body i)) = say 3 i
said (Err (Op i)) = say 4 i
said (Err (Field i)) = say 5 i
said (Err (Short i)) = say 6 i
said (Err (Extra i)) = say 7 i
said (Err Room) = say 8 0

-- "op a0, d threads T (0 to 16), a events E (0 to 32), b updates U (0 to 16), imm cells C (1 to 256)"
unfoldable pub header_fits : Frame → Bool
header_fits f =
    eqb f.op 0xa0 && leb f.d most_threads && leb f.a most_events && leb f.b most_updates
    && between 1 f.imm most_cells

-- "op a1, d, a, b zero, imm the body's length"
unfoldable pub body_fits : Frame → Bool
body_fits f = eqb f.op 0xa1 && eqb f.d 0 && eqb f.a 0 && eqb f.b 0

-- "2 header: first frame isn't a0, or a count is outside its range"
unfoldable pub header_fault : Frame → ℕ
header_fault f = if header_fits f then 0 else 2

-- "3 body: a due body frame isn't a1, has d, a, b not zero, or lengths so far pass 1,024"
unfoldable pub body_fault : List ℕ → ℕ → ℕ
body_fault fs k = if body_fits (frame fs (k + 1)) && leb (lengths fs (suc k)) most_instructions then 0 else 3

-- the fault of line i, given the lines before it: its number, and 0 for none
unfoldable pub fault : List ℕ → ℕ → ℕ
fault fs i =
    if eqb i 0 then header_fault (frame fs 0)
    else (if leb i (bodies fs) then body_fault fs (i - 1)
    else (if ltb i (due fs)
    then instruction_fault (counts fs) (kind_of (counts fs) (body_at fs i)) (len fs (body_at fs i)) (frame fs i)
    else 0))

-- "6 short: input ends .. with frames still due"; "7 extra: anything follows the last due frame"; else "0 with the count of frames";
-- "For 6 and 7 the line is the count of whole frames before."
unfoldable pub ending : List ℕ → Said
ending fs =
    if ltb (length fs) (due fs) then say 6 (length fs)
    else (if ltb (due fs) (length fs) then say 7 (due fs)
    else say 0 (length fs))

-- a fault is what is said; without one, what comes after
abbrev pub or_else : (number i : ℕ) → Said → Said
or_else zero i s = s
or_else (suc k) i s = say (suc k) i

-- the first faulty line of the n lines from line i on, else what the end says
unfoldable pub look : List ℕ → (i n : ℕ) → Said
look fs i zero = ending fs
look fs i (suc n) = or_else (fault fs i) i (look fs (suc i) n)

-- the answer of the lines from line i on: a word for laws and private contracts
unfoldable pub rest : List ℕ → ℕ → Said
rest fs i = look fs i (length fs - i)

-- "The judge: 2 to 7, else 0 with the count of frames."
unfoldable pub judged : List ℕ → Said
judged fs = look fs 0 (length fs)
