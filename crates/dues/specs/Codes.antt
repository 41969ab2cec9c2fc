-- What the numbers of due times stand for, in the kernel's types. Every number stands for something; that the lists of events and threads
-- hold none for the delta phase, which is a mark, is kept by `Shows`.
use Rattle.std.specs.Prelude.{ℕ, zero, suc, leb, Option, Some, None, if◌then◌else◌}
use Rattle.kernel.specs.Search.{Found, none, found}
use Rattle.kernel.specs.Kernel.{Due, never, delta, at}

-- the number of the last time; of nothing
abbrev pub last_time : ℕ
last_time = 4294967296

abbrev pub for_nothing : ℕ
for_nothing = 4294967297

-- 0 is the delta phase, t + 1 the time t
unfoldable pub moment_of : ℕ → Due
moment_of zero = delta
moment_of (suc t) = at t

-- "An event pends for nothing, for the delta phase, or for a due time."
unfoldable pub pend_of : ℕ → Due
pend_of c = if leb c last_time then moment_of c else never

-- what the answer stands for: a time or nothing
abbrev pub due_time : Option ℕ → Found
due_time (Some t) = found t
due_time None = none
