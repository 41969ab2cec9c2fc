-- How a table lays a design out.
use Rattle.std.specs.Prelude.{ℕ, zero, suc, ◌+◌, List, ltb, get_or, if◌then◌else◌}
use Rattle.frame.specs.Fields.{fields}
use Rattle.frame.specs.declared.Frame.{Frame}
use Rattle.frame.specs.declared.Counts.{Counts}
use Rattle.frame.specs.declared.Kind.{Kind}
use Rattle.frame.specs.declared.Kind.TheVariants.{Main, Thread, Update}

-- frame i of a table
abbrev pub frame : List ℕ → ℕ → Frame
frame fs i = fields (get_or fs i 0)

-- "Header: op a0, d threads T, a events E, b updates U, imm cells C"
abbrev pub counts_of : Frame → Counts
counts_of f = record { threads = f.d; events = f.a; updates = f.b; cells = f.imm }

unfoldable pub counts : List ℕ → Counts
counts fs = counts_of (frame fs 0)

-- "a header; one body frame each for main, the threads and the updates, in number order; then their instructions in that order"
unfoldable pub bodies : List ℕ → ℕ
bodies fs = 1 + (counts fs).threads + (counts fs).updates

-- "imm the body's length"
unfoldable pub len : List ℕ → ℕ → ℕ
len fs k = (frame fs (k + 1)).imm

-- the lengths of the bodies before body k, together
unfoldable pub lengths : List ℕ → ℕ → ℕ
lengths fs zero = 0
lengths fs (suc k) = lengths fs k + len fs k

-- the line of body k's first instruction
unfoldable pub first : List ℕ → ℕ → ℕ
first fs k = 1 + bodies fs + lengths fs k

-- how many frames are due
unfoldable pub due : List ℕ → ℕ
due fs = first fs (bodies fs)

-- the body that line i stands in: the first, of the n bodies from body k on, whose instructions end past it
unfoldable pub body_from : List ℕ → (i k n : ℕ) → ℕ
body_from fs i k zero = k
body_from fs i k (suc n) = if ltb i (first fs (suc k)) then k else body_from fs i (suc k) n

unfoldable pub body_at : List ℕ → ℕ → ℕ
body_at fs i = body_from fs i 0 (bodies fs)

-- "Bodies are numbered main 0, then threads, then updates: thread k is body k + 1."
unfoldable pub kind_of : Counts → ℕ → Kind
kind_of c zero = Main
kind_of c (suc k) = if ltb k c.threads then Thread else Update
