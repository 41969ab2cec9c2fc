-- What holds in every run, over its history: one notification an event, no wait forgotten, time and phases in their order, choices.
use Rattle.std.specs.Prelude.{ℕ, ◌+◌, ◌≤◌, ◌<◌, ◌≡◌, Bool, true, ◌&&◌, ◌||◌, ◌↔◌, ◌⊎◌, List, [], ◌∷◌, leb, length}
use Rattle.image.specs.Limits.{most_cells, most_choices, most_inputs}
use Rattle.image.specs.Judge.{judged}
use Rattle.kernel.specs.Search.{Found, none, found, nth}
use Rattle.kernel.specs.Design.{Table, main, thread, update, threads, updates, length_of}
use Rattle.kernel.specs.Kernel.{Due, delta, at, Wait, on, till, Happening, ran, triggered, freed, resumed, ended, dispatched, finished, began, moved, quiet, limited, History, before, past, kernel}
use Rattle.kernel.specs.Pending.{runnable, is_requested}
use Rattle.kernel.specs.Effect.{last_time}
use Rattle.kernel.specs.Machine.{Job, Control, running, update_phase, delta_phase, turn, evaluation, time_phase, over, State, init}
use Rattle.kernel.specs.Step.{step_from, step, steps}
use Rattle.kernel.specs.Run.{Answer, outcome_of, bound, asked}
use Rattle.kernel.specs.Words.{Among, Moment, has_ended, suspended as is_suspended, resuming as is_resuming, clock, InStage, Pends, ends_wait, Waits, Held, Sleeps, Unheld, Runnable, Requested, Work, event, wait, resume, Within, DueAt, serves, Stands, Nothing, Earliest, Above, Lull, Lowest, Underway, completed, accepted, taken, unended}

-- What may happen --------------------------------------------------------------------------------------------------

-- d has come: the delta phase, or its time
pub data Now (h : History) : Due → Type 0 where
  in_delta : Now h delta
  at_time : Now h (at (clock h).time)

-- the update phase has come, and u is the next
pub record Next (t : Table) (h : History) (u : ℕ) : Type 0 where
  pub asked : Requested t h u
  pub lull : Lull t h
  pub lowest : Lowest t u h

-- the update phase is done, and the work is due now
pub record Ripe (t : Table) (h : History) (x : Work) : Type 0 where
  pub lull : Lull t h
  pub no_update : (u : ℕ) → Requested t h u → ⊥
  pub due : Due
  pub now : Now h due
  pub stands : DueAt h x due

-- what may happen after the history h
abbrev pub Might : Table → History → Happening → Type 0
Might t h (ran main x) = Unit {0}
-- a thread runs from its dispatch until it is no longer runnable, and no other between
Might t h (ran (thread i) x) = (Runnable t h i) × (Underway t i h)
Might t h (ran (update u) x) = Next t h u
-- an event triggers, other than at once, when what pends for it is due; a wait for a time is over when that is due
Might t h (triggered e) = Ripe t h (event e)
Might t h (freed i) = Ripe t h (wait i)
Might t h (resumed i) = Ripe t h (resume i)
Might t h (ended i) = (Runnable t h i) × (Underway t i h)
Might t h (dispatched i) = (Runnable t h i) × ((n : ℕ) → Underway t n h → ⊥)
Might t h (finished u) = Next t h u
Might t h (began l) = Unit {0}
-- time moves only when still, forward, to the earliest time that stands due, and not past the limit
Might t h (moved d) = (Earliest t h d) × (Above d (clock h).limit → ⊥)
-- quiet only with nothing left; limit only with the earliest due time above it
Might t h quiet = Nothing t h
Might t h limited = (d : ℕ) × (Earliest t h d) × (Above d (clock h).limit)

-- each happening came when it might
abbrev pub Rightly : Table → History → Type 0
Rightly t [] = Unit {0}
Rightly t (x ∷ h) = (InStage (clock h).stage x) × (Might t h x) × (Rightly t h)

-- A state of a run -------------------------------------------------------------------------------------------------

-- the phase has begun and is not over
abbrev pub InPhase : Control → Type 0
InPhase (running main) = ⊥
InPhase (running (thread i)) = Unit {0}
InPhase (running (update u)) = Unit {0}
InPhase update_phase = Unit {0}
InPhase delta_phase = Unit {0}
InPhase turn = Unit {0}
InPhase evaluation = Unit {0}
InPhase time_phase = Unit {0}
InPhase (over n b p) = ⊥

-- the kernel's other marks are what the words say
pub record Marks (t : Table) (h : History) : Type 0 where
  pub ended : (i : ℕ) → ((kernel h).threads i).ended ≡ has_ended h i
  pub suspended : (i : ℕ) → ((kernel h).threads i).suspended ≡ is_suspended h i
  pub resuming : (i : ℕ) → ((kernel h).threads i).resuming ≡ is_resuming h i
  pub runs : (i : ℕ) → (runnable t (kernel h) i ≡ true) ↔ Runnable t h i
  pub requested : (u : ℕ) → (is_requested t (kernel h) u ≡ true) ↔ Requested t h u
  pub now : (kernel h).now ≡ (clock h).time
  pub limit : (kernel h).limit ≡ (clock h).limit
  pub stage : (kernel h).stage ≡ (clock h).stage

-- what the next step adds to the history, the newest first
abbrev pub added : Job → State → History
added j s = (step_from j s s.machine.control).happens

-- what is due at d comes in the next step: that is the delta phase's, or moves time to d
pub data Coming (j : Job) (s : State) : Due → Type 0 where
  in_phase : s.machine.control ≡ delta_phase → Coming j s delta
  with_time : (d : ℕ) → Among (moved d) (added j s) → Coming j s (at d)

-- at the time phase: it ends as quiet, or as limit, or time moves to d, exactly when
pub record Time (j : Job) (s : State) : Type 0 where
  pub ends_quiet : Nothing j.table s.history ↔ ((step j s).history ≡ quiet ∷ s.history)
  pub ends_limited : ((d : ℕ) × (Earliest j.table s.history d) × (Above d (clock s.history).limit)) ↔ ((step j s).history ≡ limited ∷ s.history)
  pub moves : (d : ℕ) → ((Earliest j.table s.history d) × (Above d (clock s.history).limit → ⊥)) ↔ Among (moved d) (added j s)

-- the next choice, if one is left
abbrev pub choice : Job → History → Found
choice j h = nth j.choices (accepted h)

-- some thread is runnable
abbrev pub SomeRunnable : Table → History → Type 0
SomeRunnable t h = (i : ℕ) × Runnable t h i

-- at evaluation: "20, 21: choices used up with a thread runnable; choice names a thread that isn't runnable"
pub record Chooses (j : Job) (s : State) : Type 0 where
  pub accepts : (c : ℕ) → ((choice j s.history ≡ found c) × (Runnable j.table s.history c)) ↔ ((step j s).history ≡ dispatched c ∷ s.history)
  pub used_up : ((choice j s.history ≡ none) × (SomeRunnable j.table s.history)) ↔ ((step j s).machine.control ≡ over 20 0xff 0)
  pub refused : ((c : ℕ) × (choice j s.history ≡ found c) × (Runnable j.table s.history c → ⊥) × (SomeRunnable j.table s.history)) ↔ ((step j s).machine.control ≡ over 21 0xff 0)

-- x comes next: after some steps it has happened, and nothing before it
abbrev pub Comes : Job → State → Happening → Type 0
Comes j s x = (n : ℕ) × ((steps j n s).history ≡ x ∷ s.history)

-- The answer -------------------------------------------------------------------------------------------------------

-- "time, instructions completed, choices accepted, inputs taken, and the threads not ended" are what the history says
pub record Told (t : Table) (h : History) (a : Answer) : Type 0 where
  pub time : a.time ≡ (clock h).time
  pub instructions : a.instructions ≡ completed h
  pub choices : a.choices ≡ accepted h
  pub inputs : a.inputs ≡ taken h
  pub threads : a.threads ≡ unended t h

-- the numbers with which an instruction stops a run: 12 to 19, 22 and 23
abbrev pub is_stop : ℕ → Bool
is_stop n = (leb 12 n && leb n 19) || (leb 22 n && leb n 23)

-- and 4, where a table that the judge refuses holds an unknown op
abbrev pub Stops : Table → ℕ → Type 0
Stops t n = (is_stop n ≡ true) ⊎ ((n ≡ 4) × ((judged t).number ≡ 0 → ⊥))

-- why a run is over, with which number, body and place: an instruction of a body stopped it; or none, with ff and 0: main came to its
-- end, after the phase with the phase's number, or with no phase; the choices were used up; or the next one names no runnable thread
pub data Why (j : Job) (h : History) : (n b p : ℕ) → Type 0 where
  stopped : {n b p : ℕ} → b < threads j.table + updates j.table + 1 → p < length_of j.table b → Stops j.table n → Why j h n b p
  phase_over : {n : ℕ} → (clock h).stage ≡ past n → Why j h n 0xff 0
  no_start : (clock h).stage ≡ before → Why j h 11 0xff 0
  none_left : choice j h ≡ none → SomeRunnable j.table h → Why j h 20 0xff 0
  not_runnable : (c : ℕ) → choice j h ≡ found c → (Runnable j.table h c → ⊥) → SomeRunnable j.table h → Why j h 21 0xff 0

-- The theorem ------------------------------------------------------------------------------------------------------

-- In a state of a run, with a field for each sentence. Where a field names a mark of the kernel, it says that the mark is what the words say.
pub record Kept (j : Job) (s : State) : Type 0 where
  -- one notification pends for an event, the earliest asked for since the event last triggered
  pub one_pends : (e : ℕ) → Pends s.history e ((kernel s.history).pends e)
  pub no_other : (e : ℕ) (p q : Due) → Pends s.history e p → Pends s.history e q → p ≡ q
  -- whatever happened came when it might: an event triggered, a wait for a time was over and a resume took effect when due; time moved
  -- with nothing else to do, to the earliest time due; the phase ended as quiet with nothing left, as limit with that time above it
  pub rightly : Rightly j.table s.history
  -- an event triggers (unless at once), a wait for a time is over and a resume takes effect exactly when due: in the delta phase, or
  -- at the time moved to
  pub serves_when : (x : Work) → ((Within j.table x) × ((d : Due) × (Coming j s d) × (DueAt s.history x d))) ↔ Among (serves x) (added j s)
  -- so nothing due is left behind
  pub served : s.machine.control ≡ turn → ((u : ℕ) → Requested j.table s.history u → ⊥) × (Stands j.table s.history delta → ⊥)
  pub ahead : (u : ℕ) → Stands j.table s.history (at u) → (clock s.history).time < u
  -- a thread that waits for an event is held exactly from its wait to the event's next trigger, suspended or not; so for a wait for a time
  pub holds : (i e : ℕ) → (((kernel s.history).threads i).wait ≡ on e) ↔ Held i e s.history
  pub sleeps : (i : ℕ) (d : Due) → (((kernel s.history).threads i).wait ≡ till d) ↔ Sleeps i d s.history
  pub marks : Marks j.table s.history
  -- a thread that was freed has nothing left of that wait, or of any other
  pub frees : (x : Happening) (g : History) → Moment (x ∷ g) s.history → (i : ℕ) (w : Wait) → Waits i w g → ends_wait i w x ≡ true → Unheld i (x ∷ g)
  -- time never goes backwards, nor above 4,294,967,295
  pub never_back : (g : History) → Moment g s.history → (clock g).time ≤ (clock s.history).time
  pub in_range : (clock s.history).time ≤ last_time
  -- time moves, and the phase ends as quiet or as limit, exactly when
  pub time : s.machine.control ≡ time_phase → Time j s
  pub ends_quiet : InPhase s.machine.control → Nothing j.table s.history ↔ Comes j s quiet
  pub ends_limited : InPhase s.machine.control → ((d : ℕ) × (Earliest j.table s.history d) × (Above d (clock s.history).limit)) ↔ Comes j s limited
  -- a choice is accepted exactly when it names a runnable thread; 20 and 21 accordingly
  pub chooses : s.machine.control ≡ evaluation → Chooses j s
  -- the answer that this state would give tells what the history says
  pub told : (lent : List ℕ) → Told j.table s.history (outcome_of j lent s).answer
  pub why : (n b p : ℕ) → s.machine.control ≡ over n b p → Why j s.history n b p

-- the run is not refused
pub record Fit (j : Job) (lent : List ℕ) : Type 0 where
  pub choices : length j.choices ≤ most_choices
  pub inputs : length j.inputs ≤ most_inputs
  pub room : most_cells ≤ length lent
  pub accepted : (judged j.table).number ≡ 0

-- the answer that the caller sees tells what the history of the run's last state says
pub record Answered (j : Job) (h : History) (a : Answer) : Type 0 where
  pub told : Told j.table h a
  pub why : Why j h a.number a.body a.place

-- after any number of steps of any run, whatever the table, and of every answer that `asked` gives and no refusal is
pub record Demand : Type 0 where
  pub kept : (j : Job) (n : ℕ) → Kept j (steps j n (init j))
  pub answered : (j : Job) (lent : List ℕ) → Fit j lent → Answered j (steps j (bound j) (init j)).history (asked j lent).answer
