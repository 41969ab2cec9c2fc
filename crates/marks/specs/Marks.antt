-- What the code makes of the marks. Document 01, "The kernel"; the crate `shows` says what that is for the kernel they show.
use Rattle.std.specs.Prelude.{ℕ, ◌%◌, Option, Some, None, Bool, not, ◌&&◌, eqb, ltb, if◌then◌else◌}
use Rattle.sets.specs.Sets.{has, join, minus, with, without, below, least_of}
use Rattle.kernel.specs.Search.{Found, none, found}
use Rattle.marks.specs.declared.Marks.{Marks}

-- Threads, and updates -----------------------------------------------------------------------------------------

-- "A thread is runnable when it hasn't ended, waits for nothing and isn't suspended."
abbrev pub idle : Marks → ℕ
idle m = join (join m.waiting m.suspended) m.ended

unfoldable pub may_run : Marks → ℕ → Bool
may_run m i = ltb i 32 && not (has (idle m) i)

unfoldable pub any_runs : Marks → Bool
any_runs m = not (eqb (idle m % 4294967296) 4294967295)

-- the first requested update
unfoldable pub first_asked : Marks → Found
first_asked m = if eqb (m.requested % 4294967296) 0 then none else found (least_of m.requested)

-- what the answer stands for: a place or nothing
abbrev pub found_of : Option ℕ → Found
found_of (Some i) = found i
found_of None = none

-- "the threads not ended, thread 0 as bit 0"
unfoldable pub not_ended : Marks → ℕ
not_ended m = minus 4294967295 m.ended

-- The marks with one of them changed ---------------------------------------------------------------------------

abbrev pub with_waiting : ℕ → Marks → Marks
with_waiting x m = record { waiting = x; delta = m.delta; suspended = m.suspended; resuming = m.resuming; ended = m.ended; requested = m.requested; pending = m.pending }

abbrev pub with_resuming : ℕ → Marks → Marks
with_resuming x m = record { waiting = m.waiting; delta = m.delta; suspended = m.suspended; resuming = x; ended = m.ended; requested = m.requested; pending = m.pending }

abbrev pub with_ended : ℕ → Marks → Marks
with_ended x m = record { waiting = m.waiting; delta = m.delta; suspended = m.suspended; resuming = m.resuming; ended = x; requested = m.requested; pending = m.pending }

abbrev pub with_requested : ℕ → Marks → Marks
with_requested x m = record { waiting = m.waiting; delta = m.delta; suspended = m.suspended; resuming = m.resuming; ended = m.ended; requested = x; pending = m.pending }

abbrev pub with_pending : ℕ → Marks → Marks
with_pending x m = record { waiting = m.waiting; delta = m.delta; suspended = m.suspended; resuming = m.resuming; ended = m.ended; requested = m.requested; pending = x }

-- no event pends, no thread waits or is suspended, no update is requested; what threads there are not have ended
abbrev pub first_marks : (threads : ℕ) → Marks
first_marks n = record { waiting = 0; delta = 0; suspended = 0; resuming = 0; ended = minus 4294967295 (below n); requested = 0; pending = 0 }

-- Waits, and notifications -------------------------------------------------------------------------------------

-- thread i waits for an event; for the delta phase, where q is 0, or for the time of q
abbrev pub waits_on : ℕ → Marks → Marks
waits_on i m = with_waiting (with m.waiting i) m

unfoldable pub waits_till : (q i : ℕ) → Marks → Marks
waits_till q i m =
    if eqb q 0 then record { waiting = with m.waiting i; delta = with m.delta i; suspended = m.suspended; resuming = m.resuming; ended = m.ended; requested = m.requested; pending = m.pending }
    else with_waiting (with m.waiting i) m

-- event e pends for the delta phase, where q is 0
unfoldable pub asked_for : (q e : ℕ) → Marks → Marks
asked_for q e m = if eqb q 0 then with_pending (with m.pending e) m else m

-- Suspend, resume, the end -------------------------------------------------------------------------------------

-- "Suspend acts at once and drops a pending resume." "On ended threads both do nothing."
unfoldable pub suspended : ℕ → Marks → Marks
suspended i m =
    if has m.ended i then m
    else record { waiting = m.waiting; delta = m.delta; suspended = with m.suspended i; resuming = without m.resuming i; ended = m.ended; requested = m.requested; pending = m.pending }

-- "Resume of a suspended thread takes effect in the next delta phase; of another, it has no effect."
unfoldable pub resumed : ℕ → Marks → Marks
resumed i m = if has m.suspended i && not (has m.ended i) then with_resuming (with m.resuming i) m else m

-- "At the end it has ended for good"
abbrev pub ended_by : ℕ → Marks → Marks
ended_by i m = with_ended (with m.ended i) m

-- "one counts as requested until it has reached its end"
abbrev pub requested_by : ℕ → Marks → Marks
requested_by u m = with_requested (with m.requested u) m

abbrev pub finished_by : ℕ → Marks → Marks
finished_by u m = with_requested (without m.requested u) m
