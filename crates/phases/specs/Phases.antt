-- What the code makes of the marks and of the threads that wait for each event. Document 01, "The kernel"; the crate `shows` says what that is
-- for the kernel they show.
use Rattle.std.specs.Prelude.{ℕ, zero, suc, List, get_or, set, if◌then◌else◌}
use Rattle.sets.specs.Sets.{has, minus}
use Rattle.marks.specs.declared.Marks.{Marks}
use Rattle.marks.specs.Marks.{with_waiting}
use Rattle.dues.specs.Dues.{due_in}

-- All that is due is triggered or freed together ---------------------------------------------------------------

-- the threads still waiting after the first n events, of those in the set es, and what is left of the waiters
unfoldable pub freed_to : (es : ℕ) → (ws : List ℕ) → (waiting n : ℕ) → ℕ
freed_to es ws x zero = x
freed_to es ws x (suc n) = if has es n then minus (freed_to es ws x n) (get_or ws n 0) else freed_to es ws x n

unfoldable pub cleared_to : (es n : ℕ) → List ℕ → List ℕ
cleared_to es zero ws = ws
cleared_to es (suc n) ws = if has es n then set (cleared_to es n ws) n 0 else cleared_to es n ws

abbrev pub freed_by : (es : ℕ) → (ws : List ℕ) → (waiting : ℕ) → ℕ
freed_by es ws x = freed_to es ws x 32

abbrev pub cleared_by : (es : ℕ) → List ℕ → List ℕ
cleared_by es ws = cleared_to es 32 ws

-- the delta phase: the events that pend for it, the threads that wait for it, and each pending resume
abbrev pub served_delta : (ws : List ℕ) → Marks → Marks
served_delta ws m = record { waiting = freed_by m.pending ws (minus m.waiting m.delta); delta = 0; suspended = minus m.suspended m.resuming; resuming = 0; ended = m.ended; requested = m.requested; pending = 0 }

-- a time: the events and threads that are due at it
abbrev pub served_time : (q : ℕ) → (pends waits ws : List ℕ) → Marks → Marks
served_time q ps cs ws m = with_waiting (freed_by (due_in q ps) ws (minus m.waiting (due_in q cs))) m
