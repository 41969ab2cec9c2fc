-- When the numbers of the code show a kernel. Nothing public speaks of it.
use Rattle.std.specs.Prelude.{ℕ, ◌≤◌, ◌<◌, ◌≡◌, Bool, true, false, not, List, eqb, length, get_or}
use Rattle.sets.specs.Sets.{has}
use Rattle.kernel.specs.Design.{Table, threads as threads_of, events as events_of, updates as updates_of}
use Rattle.kernel.specs.Kernel.{Due, delta, Wait, free, on, till, Kernel}
use Rattle.kernel.specs.Pending.{is_free, due_of, time_of, same_due}
use Rattle.marks.specs.declared.Marks.{Marks}
use Rattle.dues.specs.Codes.{pend_of}

-- the lent lists: what each event pends for and each thread waits for, where it is a time, and the threads that wait for each event
pub record Lists : Type 0 where
  pub pends : List ℕ
  pub waits : List ℕ
  pub waiters : List ℕ

abbrev pub lists : (pends waits waiters : List ℕ) → Lists
lists p w x = record { pends = p; waits = w; waiters = x }

-- with the marks: all numbers that show the kernel
pub record Kept : Type 0 where
  pub marks : Marks
  pub lists : Lists

abbrev pub kept : Marks → Lists → Kept
kept m l = record { marks = m; lists = l }

-- a wait for event e
abbrev pub is_on : ℕ → Wait → Bool
is_on e free = false
is_on e (on f) = eqb f e
is_on e (till d) = false

-- a number for the time of d, or for nothing where d is no time; it never stands for the delta phase
pub record Timed (c : ℕ) (d : Due) : Type 0 where
  pub no_delta : 0 < c
  pub same : time_of (pend_of c) ≡ time_of d

-- a set has room for all
pub record Few (t : Table) : Type 0 where
  pub threads : threads_of t ≤ 32
  pub events : events_of t ≤ 32
  pub updates : updates_of t ≤ 32

pub record Shows (t : Table) (k : Kernel) (x : Kept) : Type 0 where
  -- events: which pend for the delta phase, and for what time the others
  pub pending : (e : ℕ) → e < events_of t → has x.marks.pending e ≡ same_due (k.pends e) delta
  pub pends : (e : ℕ) → e < events_of t → Timed (get_or x.lists.pends e 0) (k.pends e)
  -- threads: which wait, for the delta phase, for a time, for an event
  pub waiting : (i : ℕ) → i < threads_of t → has x.marks.waiting i ≡ not (is_free (k.threads i).wait)
  pub deltas : (i : ℕ) → i < threads_of t → has x.marks.delta i ≡ same_due (due_of (k.threads i).wait) delta
  pub waits : (i : ℕ) → i < threads_of t → Timed (get_or x.lists.waits i 0) (due_of (k.threads i).wait)
  pub waiters : (e i : ℕ) → e < events_of t → i < threads_of t → has (get_or x.lists.waiters e 0) i ≡ is_on e (k.threads i).wait
  -- and which are suspended, to be resumed, ended
  pub suspended : (i : ℕ) → i < threads_of t → has x.marks.suspended i ≡ (k.threads i).suspended
  pub resuming : (i : ℕ) → i < threads_of t → has x.marks.resuming i ≡ (k.threads i).resuming
  pub ended : (i : ℕ) → i < threads_of t → has x.marks.ended i ≡ (k.threads i).ended
  -- updates: which are requested
  pub requested : (u : ℕ) → u < updates_of t → has x.marks.requested u ≡ k.requested u
  -- threads that there are not have ended, and no update that there is not is requested
  pub no_thread : (i : ℕ) → threads_of t ≤ i → i < 32 → has x.marks.ended i ≡ true
  pub no_update : (u : ℕ) → updates_of t ≤ u → u < 32 → has x.marks.requested u ≡ false
  pub all_pends : length x.lists.pends ≡ events_of t
  pub all_waits : length x.lists.waits ≡ threads_of t
  pub all_waiters : length x.lists.waiters ≡ events_of t
  pub few : Few t
