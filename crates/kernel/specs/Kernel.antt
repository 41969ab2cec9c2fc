-- What the kernel is after what happened. Document 01, "The kernel".
use Rattle.std.specs.Prelude.{ℕ, zero, suc, ◌+◌, Bool, true, false, not, ◌&&◌, [], ◌∷◌, eqb, leb, if◌then◌else◌}
use Rattle.kernel.specs.Search.{Found, none, edit}
use Rattle.kernel.specs.Design.{main, thread, update}
pub use Rattle.kernel.specs.History.{Due, never, delta, at, Wait, free, on, till, Stage, before, during, past, Deed, nothing, reads, notifies, asks, waits, requests, suspends, resumes, Happening, ran, triggered, freed, resumed, ended, dispatched, finished, began, moved, quiet, limited, History}

-- "The earlier one stays; delta is earlier than any time."
abbrev pub earlier : Due → Due → Due
earlier never d = d
earlier delta d = delta
earlier (at t) never = at t
earlier (at t) delta = delta
earlier (at t) (at u) = if leb t u then at t else at u

-- "Delay 0 pends for the delta phase, else now + delay."
abbrev pub after_delay : ℕ → ℕ → Due
after_delay now zero = delta
after_delay now (suc n) = at (now + suc n)

pub record Thread : Type 0 where
  pub wait : Wait
  pub suspended : Bool
  pub resuming : Bool
  pub ended : Bool

-- the kernel as it stands
pub record Kernel : Type 0 where
  pub pends : ℕ → Due
  pub threads : ℕ → Thread
  pub requested : ℕ → Bool
  pub now : ℕ
  pub limit : Found
  pub stage : Stage

abbrev pub fresh : Thread
fresh = record { wait = free; suspended = false; resuming = false; ended = false }

-- a thread with another wait; with other marks of suspend and resume; at its end
abbrev pub waiting : Wait → Thread → Thread
waiting w t = record { wait = w; suspended = t.suspended; resuming = t.resuming; ended = t.ended }

abbrev pub standing : Bool → Bool → Thread → Thread
standing s r t = record { wait = t.wait; suspended = s; resuming = r; ended = t.ended }

abbrev pub ending : Thread → Thread
ending t = record { wait = t.wait; suspended = t.suspended; resuming = t.resuming; ended = true }

-- the kernel with one thing changed
abbrev pub with_pends : (ℕ → Due) → Kernel → Kernel
with_pends f k = record { pends = f; threads = k.threads; requested = k.requested; now = k.now; limit = k.limit; stage = k.stage }

abbrev pub with_threads : (ℕ → Thread) → Kernel → Kernel
with_threads f k = record { pends = k.pends; threads = f; requested = k.requested; now = k.now; limit = k.limit; stage = k.stage }

abbrev pub with_requested : (ℕ → Bool) → Kernel → Kernel
with_requested f k = record { pends = k.pends; threads = k.threads; requested = f; now = k.now; limit = k.limit; stage = k.stage }

abbrev pub with_now : ℕ → Kernel → Kernel
with_now n k = record { pends = k.pends; threads = k.threads; requested = k.requested; now = n; limit = k.limit; stage = k.stage }

abbrev pub with_stage : Stage → Found → Kernel → Kernel
with_stage s l k = record { pends = k.pends; threads = k.threads; requested = k.requested; now = k.now; limit = l; stage = s }

-- "A trigger frees each thread waiting for that event, suspended ones included."
abbrev pub free_on : ℕ → Wait → Wait
free_on e free = free
free_on e (on f) = if eqb f e then free else on f
free_on e (till d) = till d

-- and what pended for the event pends no more
abbrev pub triggering : ℕ → Kernel → Kernel
triggering e k = record {
  pends = edit e (λ p. never) k.pends;
  threads = λ i. waiting (free_on e (k.threads i).wait) (k.threads i);
  requested = k.requested;
  now = k.now;
  limit = k.limit;
  stage = k.stage;
}

-- "Suspend acts at once and drops a pending resume." "On ended threads both do nothing."
abbrev pub suspending : Thread → Thread
suspending t = if t.ended then t else standing true false t

-- "Resume of a suspended thread takes effect in the next delta phase; of another, it has no effect."
abbrev pub asks_back : Thread → Thread
asks_back t = if t.suspended && not t.ended then standing t.suspended true t else t

-- a wait for a time is over
abbrev pub free_timed : Wait → Wait
free_timed free = free
free_timed (on e) = on e
free_timed (till d) = free

unfoldable pub after : Happening → Kernel → Kernel
after (ran b nothing) k = k
after (ran b reads) k = k
-- "Notify at once drops what pends and triggers the event."
after (ran b (notifies e)) k = triggering e k
-- "The earlier one stays."
after (ran b (asks e d)) k = with_pends (edit e (λ p. earlier d p) k.pends) k
-- only a thread waits
after (ran main (waits w)) k = k
after (ran (thread i) (waits w)) k = with_threads (edit i (waiting w) k.threads) k
after (ran (update u) (waits w)) k = k
after (ran b (requests u)) k = with_requested (edit u (λ r. true) k.requested) k
after (ran b (suspends i)) k = with_threads (edit i suspending k.threads) k
after (ran b (resumes i)) k = with_threads (edit i asks_back k.threads) k
-- an event that was due triggers, a wait for a time is over, a resume takes effect
after (triggered e) k = triggering e k
after (freed i) k = with_threads (edit i (λ t. waiting (free_timed t.wait) t) k.threads) k
after (resumed i) k = with_threads (edit i (standing false false) k.threads) k
-- "At the end it has ended for good"
after (ended i) k = with_threads (edit i ending k.threads) k
after (dispatched i) k = k
-- "one counts as requested until it has reached its end"
after (finished u) k = with_requested (edit u (λ r. false) k.requested) k
-- "Start counts as completed when the phase begins"
after (began l) k = with_stage during l k
after (moved t) k = with_now t k
-- "0 quiet, 10 limit"
after quiet k = with_stage (past 0) k.limit k
after limited k = with_stage (past 10) k.limit k

-- the kernel after a history
unfoldable pub kernel : History → Kernel
kernel [] =
    record { pends = λ e. never; threads = λ i. fresh; requested = λ u. false; now = 0; limit = none; stage = before }
kernel (x ∷ h) = after x (kernel h)
