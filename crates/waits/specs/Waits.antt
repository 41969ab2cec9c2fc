-- What a notify at once makes of the marks, given the threads that wait for each event. Document 01, "The kernel"; the crate `shows` says what
-- that is for the kernel they show.
use Rattle.std.specs.Prelude.{ℕ, List, get_or}
use Rattle.sets.specs.Sets.{minus, without}
use Rattle.marks.specs.declared.Marks.{Marks}

-- "Notify at once drops what pends and triggers the event." ws are the threads that wait for each event
unfoldable pub triggered : (ws : List ℕ) → (e : ℕ) → Marks → Marks
triggered ws e m = record { waiting = minus m.waiting (get_or ws e 0); delta = m.delta; suspended = m.suspended; resuming = m.resuming; ended = m.ended; requested = m.requested; pending = without m.pending e }
