-- Words over histories, the newest happening first. No mark of the machine and no rule of the kernel is used here.
use Rattle.std.specs.Prelude.{ℕ, suc, ◌^◌, ◌≤◌, ◌<◌, ◌≡◌, Bool, true, false, not, ◌&&◌, ◌||◌, ◌⊎◌, [], ◌∷◌, eqb, if◌then◌else◌}
use Rattle.kernel.specs.Search.{Found, none, found, sum}
use Rattle.kernel.specs.Design.{Table, Body, main, thread, update, threads, events, updates}
use Rattle.kernel.specs.History.{Due, never, delta, at, Wait, free, on, till, Deed, nothing, reads, notifies, asks, waits, requests, suspends, resumes, Happening, ran, triggered, freed, resumed, ended, dispatched, finished, began, moved, quiet, limited, History, Stage, before, during, past}

-- a happening's kind and number
abbrev pub sign : Happening → ℕ × ℕ
sign (ran b nothing) = (0, 0)
sign (ran b reads) = (17, 0)
sign (ran b (notifies e)) = (1, e)
sign (ran b (asks e d)) = (2, e)
sign (ran b (waits w)) = (3, 0)
sign (ran b (requests u)) = (4, u)
sign (ran b (suspends i)) = (5, i)
sign (ran b (resumes i)) = (6, i)
sign (triggered e) = (7, e)
sign (freed i) = (8, i)
sign (resumed i) = (9, i)
sign (ended i) = (10, i)
sign (dispatched i) = (11, i)
sign (finished u) = (12, u)
sign (began l) = (13, 0)
sign (moved t) = (14, t)
sign quiet = (15, 0)
sign limited = (16, 0)

-- x is of y's kind; x is y, whoever ran it
abbrev pub alike : Happening → Happening → Bool
alike y x = eqb (sign y).0 (sign x).0

abbrev pub like : Happening → Happening → Bool
like y x = alike y x && eqb (sign y).1 (sign x).1

-- x is among these
pub data Among (x : Happening) : History → Type 0 where
  newest : {h : History} → Among x (x ∷ h)
  older : {y : Happening} {h : History} → Among x h → Among x (y ∷ h)

-- g is h, or h at an earlier moment
pub data Moment (g : History) : History → Type 0 where
  now : Moment g g
  ago : {x : Happening} {h : History} → Moment g h → Moment g (x ∷ h)

-- Since --------------------------------------------------------------------------------------------------------

-- something opened it, and nothing has closed it since
unfoldable pub since : (History → Happening → Bool) → (History → Happening → Bool) → History → Bool
since opens closes [] = false
since opens closes (x ∷ h) = opens h x || (not (closes h x) && since opens closes h)

abbrev pub requested : History → ℕ → Bool
requested h u = since (λ r x. like (ran main (requests u)) x) (λ r x. like (finished u) x) h

abbrev pub has_ended : History → ℕ → Bool
has_ended h i = since (λ r x. like (ended i) x) (λ r x. false) h

-- suspend of an ended thread does nothing
abbrev pub suspended : History → ℕ → Bool
suspended h i = since (λ r x. like (ran main (suspends i)) x && not (has_ended r i)) (λ r x. like (resumed i) x) h

-- a resume stands; suspend drops it
abbrev pub resuming : History → ℕ → Bool
resuming h i =
    since
    (λ r x. like (ran main (resumes i)) x && (suspended r i && not (has_ended r i)))
    (λ r x. like (resumed i) x || (like (ran main (suspends i)) x && not (has_ended r i)))
    h

-- The clock ----------------------------------------------------------------------------------------------------

-- the time, the limit that the phase began with, and whether it is before the phase, in it or after it
pub record Clock : Type 0 where
  pub time : ℕ
  pub limit : Found
  pub stage : Stage

unfoldable pub clock : History → Clock
clock [] = record { time = 0; limit = none; stage = before }
clock (ran b x ∷ h) = clock h
clock (triggered e ∷ h) = clock h
clock (freed i ∷ h) = clock h
clock (resumed i ∷ h) = clock h
clock (ended i ∷ h) = clock h
clock (dispatched i ∷ h) = clock h
clock (finished u ∷ h) = clock h
clock (began l ∷ h) = record { time = (clock h).time; limit = l; stage = during }
clock (moved t ∷ h) = record { time = t; limit = (clock h).limit; stage = (clock h).stage }
clock (quiet ∷ h) = record { time = (clock h).time; limit = (clock h).limit; stage = past 0 }
clock (limited ∷ h) = record { time = (clock h).time; limit = (clock h).limit; stage = past 10 }

-- main runs outside the phase, and the phase begins once; all else happens in it
abbrev pub InStage : Stage → Happening → Type 0
InStage s (ran main x) = s ≡ during → ⊥
InStage s (ran (thread i) x) = s ≡ during
InStage s (ran (update u) x) = s ≡ during
InStage s (triggered e) = s ≡ during
InStage s (freed i) = s ≡ during
InStage s (resumed i) = s ≡ during
InStage s (ended i) = s ≡ during
InStage s (dispatched i) = s ≡ during
InStage s (finished u) = s ≡ during
InStage s (began l) = s ≡ before
InStage s (moved t) = s ≡ during
InStage s quiet = s ≡ during
InStage s limited = s ≡ during

-- Notifications ------------------------------------------------------------------------------------------------

-- x triggers event e: at once, or when due
abbrev pub triggers : ℕ → Happening → Bool
triggers e x = like (triggered e) x || like (ran main (notifies e)) x

-- a notification of event e for d was asked for, and e has not triggered since
pub data Asked (e : ℕ) (d : Due) : History → Type 0 where
  asks_now : {b : Body} {h : History} → Asked e d (ran b (asks e d) ∷ h)
  asks_yet : {x : Happening} {h : History} → triggers e x ≡ false → Asked e d h → Asked e d (x ∷ h)

-- p is no later than d
abbrev pub NotLater : Due → Due → Type 0
NotLater p never = Unit {0}
NotLater never delta = ⊥
NotLater delta delta = Unit {0}
NotLater (at t) delta = ⊥
NotLater never (at u) = ⊥
NotLater delta (at u) = Unit {0}
NotLater (at t) (at u) = t ≤ u

-- p is the one notification that pends for e, if any: the earliest asked for since e last triggered
pub record Pends (h : History) (e : ℕ) (p : Due) : Type 0 where
  pub earliest : (d : Due) → Asked e d h → NotLater p d
  pub stands : (p ≡ never) ⊎ Asked e p h

-- Waits --------------------------------------------------------------------------------------------------------

-- x ends a wait of thread i: the event triggers, or the thread is freed
abbrev pub ends_wait : ℕ → Wait → Happening → Bool
ends_wait i free x = false
ends_wait i (on e) x = triggers e x
ends_wait i (till d) x = like (freed i) x

-- thread i began to wait for w, and nothing has ended that since
pub data Waits (i : ℕ) (w : Wait) : History → Type 0 where
  waits_now : {h : History} → Waits i w (ran (thread i) (waits w) ∷ h)
  waits_yet : {x : Happening} {h : History} → ends_wait i w x ≡ false → Waits i w h → Waits i w (x ∷ h)

-- it waits for event e, which has not triggered since; it waits for the time d, and has not been freed since
abbrev pub Held : ℕ → ℕ → History → Type 0
Held i e h = Waits i (on e) h

abbrev pub Sleeps : ℕ → Due → History → Type 0
Sleeps i d h = Waits i (till d) h

-- thread i waits for nothing
pub record Unheld (i : ℕ) (h : History) : Type 0 where
  pub no_event : (e : ℕ) → Held i e h → ⊥
  pub no_time : (d : Due) → Sleeps i d h → ⊥

-- Threads and updates ------------------------------------------------------------------------------------------

-- "A thread is runnable when it hasn't ended, waits for nothing and isn't suspended."
pub record Runnable (t : Table) (h : History) (i : ℕ) : Type 0 where
  pub there : i < threads t
  pub not_ended : has_ended h i ≡ false
  pub not_suspended : suspended h i ≡ false
  pub no_event : (e : ℕ) → Held i e h → ⊥
  pub no_time : (d : Due) → Sleeps i d h → ⊥

pub record Requested (t : Table) (h : History) (u : ℕ) : Type 0 where
  pub there : u < updates t
  pub asked : requested h u ≡ true

-- What is due ----------------------------------------------------------------------------------------------------

-- what can be due: a notification of an event, a thread's wait for a time, a thread's resume
pub data Work : Type 0 where
  event : ℕ → Work
  wait : ℕ → Work
  resume : ℕ → Work

abbrev pub Within : Table → Work → Type 0
Within t (event e) = e < events t
Within t (wait i) = i < threads t
Within t (resume i) = i < threads t

-- it is due at d; a resume that stands is due in the delta phase
abbrev pub DueAt : History → Work → Due → Type 0
DueAt h (event e) d = Pends h e d
DueAt h (wait i) d = Sleeps i d h
DueAt h (resume i) d = (resuming h i ≡ true) × (delta ≡ d)

-- the happening that does the work
abbrev pub serves : Work → Happening
serves (event e) = triggered e
serves (wait i) = freed i
serves (resume i) = resumed i

-- something of the design stands due at d
pub record Stands (t : Table) (h : History) (d : Due) : Type 0 where
  pub work : Work
  pub within : Within t work
  pub due : DueAt h work d

-- no thread is runnable, no update requested, no delta work pending
pub record Still (t : Table) (h : History) : Type 0 where
  pub no_thread : (i : ℕ) → Runnable t h i → ⊥
  pub no_update : (u : ℕ) → Requested t h u → ⊥
  pub no_delta : Stands t h delta → ⊥

-- nothing is left
pub record Nothing (t : Table) (h : History) : Type 0 where
  pub still : Still t h
  pub no_due : (u : ℕ) → Stands t h (at u) → ⊥

-- d is the earliest time that stands due, and later than now
pub record Earliest (t : Table) (h : History) (d : ℕ) : Type 0 where
  pub still : Still t h
  pub due : Stands t h (at d)
  pub first : (u : ℕ) → Stands t h (at u) → d ≤ u
  pub later : (clock h).time < d

abbrev pub Above : ℕ → Found → Type 0
Above d none = ⊥
Above d (found l) = l < d

-- The order ----------------------------------------------------------------------------------------------------

-- x is an update's, a move of time, or something due that is served
abbrev pub between : Happening → Bool
between (ran main x) = false
between (ran (thread i) x) = false
between (ran (update u) x) = true
between (triggered e) = true
between (freed i) = true
between (resumed i) = true
between (ended i) = false
between (dispatched i) = false
between (finished u) = true
between (began l) = false
between (moved t) = true
between quiet = false
between limited = false

-- no thread was runnable, or the phase had just begun; and since then only updates have run, time has moved, and what is due was served
pub data Lull (t : Table) : History → Type 0 where
  begun : {l : Found} {h : History} → Lull t (began l ∷ h)
  idle : {h : History} → ((i : ℕ) → Runnable t h i → ⊥) → Lull t h
  yet : {x : Happening} {h : History} → between x ≡ true → Lull t h → Lull t (x ∷ h)

-- update u was the lowest one requested, and has run since
pub data Lowest (t : Table) (u : ℕ) : History → Type 0 where
  lowest : {h : History} → ((v : ℕ) → v < u → Requested t h v → ⊥) → Lowest t u h
  runs : {d : Deed} {h : History} → Lowest t u h → Lowest t u (ran (update u) d ∷ h)

-- thread i was dispatched, and since then only it has run, runnable after each instruction
pub data Underway (t : Table) (i : ℕ) : History → Type 0 where
  starts : {h : History} → Runnable t (dispatched i ∷ h) i → Underway t i (dispatched i ∷ h)
  goes_on : {d : Deed} {h : History} → Underway t i h → Runnable t (ran (thread i) d ∷ h) i → Underway t i (ran (thread i) d ∷ h)

-- What an answer tells -----------------------------------------------------------------------------------------

-- an instruction was completed; "Start counts as completed when the phase begins"
abbrev pub completes : Happening → Bool
completes (ran b x) = true
completes (triggered e) = false
completes (freed i) = false
completes (resumed i) = false
completes (ended i) = false
completes (dispatched i) = false
completes (finished u) = false
completes (began l) = true
completes (moved t) = false
completes quiet = false
completes limited = false

-- how many of what happened pass the test
unfoldable pub count : (Happening → Bool) → History → ℕ
count p [] = 0
count p (x ∷ h) = if p x then suc (count p h) else count p h

-- "instructions completed, choices accepted, inputs taken": each dispatch accepts a choice
abbrev pub completed : History → ℕ
completed h = count completes h

abbrev pub accepted : History → ℕ
accepted h = count (alike (dispatched 0)) h

abbrev pub taken : History → ℕ
taken h = count (alike (ran main reads)) h

-- "the threads not ended, thread 0 as bit 0"
abbrev pub unended : Table → History → ℕ
unended t h = sum (λ i. if has_ended h i then 0 else 2 ^ i) (threads t)
