-- What the answer tells is what the history says: the counts, the threads not ended, and why the run is over.
use Prim.Native.Nat.{ℕ, zero, suc, ◌<◌, ◌^◌}
use mathlib.Core.Path.{◌≡◌, refl, ap, ◌∙◌, sym, subst}
use mathlib.Core.Bool.{Bool, true, false, true≢false}
use mathlib.Core.Logic.{inl}
use mathlib.Core.List.{List, ◌∷◌, ◌++◌, append_assoc}
use borrow.Author.Tests.{le-ltb, ltb-true}
use Rattle.std.specs.Prelude.{if◌then◌else◌}
use Rattle.kernel.specs.Search.{add_if, each}
use Rattle.kernel.specs.Design.{Table, Body, main, threads, number, length_of}
use Rattle.kernel.specs.Kernel.{Due, delta, at, Kernel, Deed, nothing, reads, notifies, asks, waits, requests, suspends, resumes, Happening, ran, triggered, freed, resumed, dispatched, moved, History, Stage, before, during, past, kernel}
use Rattle.kernel.specs.Pending.{served}
use Rattle.kernel.specs.Effect.{Effect, stops, sets, takes, goes, does, begins}
use Rattle.kernel.specs.Machine.{Job, Control, running, update_phase, delta_phase, turn, evaluation, time_phase, over, Machine, State, Out, init}
use Rattle.kernel.specs.Step.{effect_of, perform, view, phase_number, step_from, step, steps}
use Rattle.kernel.specs.Run.{not_ended, ends, outcome_from, outcome_of, bound, runs, asked}
use Rattle.kernel.specs.Enough.{Over}
use Rattle.kernel.specs.Words.{alike, clock, completes, count, completed, accepted, taken, unended}
use Rattle.kernel.specs.Demand.{Rightly, Told, Why, stopped, phase_over, no_start, none_left, not_runnable, Fit, Answered}
use Rattle.kernel.proofs.Search.{sum_same}
use Rattle.kernel.proofs.Served.{spread}
use Rattle.kernel.proofs.Branch as B
use Rattle.kernel.proofs.Branch.{Branch, branch}
use Rattle.kernel.proofs.Fits.{Fits, body_there, on_either}
use Rattle.kernel.proofs.Enough.{enough}
use Rattle.kernel.proofs.Words.{thread_ended, time_now, stage_now, runnable_runs}
use Rattle.kernel.proofs.Ahead.{Allowed, allowed}
use Rattle.kernel.proofs.Rightly.{Standing, some_runnable_lem, Inv, inv_step}

-- Serving counts as nothing --------------------------------------------------------------------------------------

module _ (p : Happening → Bool) where
  count_each : (f : ℕ → Happening) → ((n : ℕ) → p (f n) ≡ false) → (q : ℕ → Bool) (n : ℕ) (h : History) → count p (each q f n ++ h) ≡ count p h
  unfolding each count
  count_each f z q zero h = refl
  count_each f z q (suc n) h = go (q n) (count_each f z q n h)
    where
      go : (b : Bool) → count p (each q f n ++ h) ≡ count p h → count p (add_if b (f n) (each q f n) ++ h) ≡ count p h
      go true r = rw (z n) r
      go false r = r

  count_served : ((n : ℕ) → p (triggered n) ≡ false) → ((n : ℕ) → p (freed n) ≡ false) → ((n : ℕ) → p (resumed n) ≡ false) → (t : Table) (k : Kernel) (d : Due) (h : History) → count p (served t k d ++ h) ≡ count p h
  count_served a b c t k d h =
      ap (count p) (spread t k d h) ∙ count_each resumed c _ (threads t) _ ∙ count_each freed b _ (threads t) _ ∙ count_each triggered a _ _ h

-- The counts -----------------------------------------------------------------------------------------------------

pub record Counts (i c n : ℕ) (h : History) : Type 0 where
  pub instructions : i ≡ completed h
  pub choices : c ≡ accepted h
  pub inputs : n ≡ taken h

abbrev CountsOf : Machine → History → Type 0
CountsOf m h = Counts m.instructions m.choices m.inputs h

serving_counts : (m : Machine) (t : Table) (k : Kernel) (d : Due) (h : History) → CountsOf m h → CountsOf m (served t k d ++ h)
serving_counts m t k d h c = record {
  instructions = c.instructions ∙ sym (count_served completes (λ n. refl) (λ n. refl) (λ n. refl) t k d h);
  choices = c.choices ∙ sym (count_served (alike (dispatched 0)) (λ n. refl) (λ n. refl) (λ n. refl) t k d h);
  inputs = c.inputs ∙ sym (count_served (alike (ran main reads)) (λ n. refl) (λ n. refl) (λ n. refl) t k d h);
}

-- an instruction is no dispatch
ran_only : (b : Body) (x : Deed) → alike (dispatched 0) (ran b x) ≡ false
ran_only b nothing = refl
ran_only b reads = refl
ran_only b (notifies e) = refl
ran_only b (asks e d) = refl
ran_only b (waits w) = refl
ran_only b (requests u) = refl
ran_only b (suspends i) = refl
ran_only b (resumes i) = refl

-- Why a run is over ----------------------------------------------------------------------------------------------

abbrev WhyAt : Job → History → Control → Type 0
WhyAt j h (running b) = Unit {0}
WhyAt j h update_phase = Unit {0}
WhyAt j h delta_phase = Unit {0}
WhyAt j h turn = Unit {0}
WhyAt j h evaluation = Unit {0}
WhyAt j h time_phase = Unit {0}
WhyAt j h (over n b p) = Why j h n b p

pub record Tells (j : Job) (h : History) (m : Machine) : Type 0 where
  pub counts : CountsOf m h
  pub why : WhyAt j h m.control

module _ (j : Job) (s : State) (c : CountsOf s.machine s.history) where
  abbrev t : Table
  t = j.table

  abbrev h : History
  h = s.history

  abbrev m : Machine
  m = s.machine

  abbrev TellsOf : Out → Type 0
  TellsOf o = Tells j (o.happens ++ h) o.next

  -- an instruction of b is due
  abbrev IsDue : Body → Type 0
  IsDue b = m.places (number t b) < length_of t (number t b)

  performs : (b : Body) (x : Effect) (v : ℕ) (g : Stage) → Allowed t (view j s b).input v g x → IsDue b → Fits t (kernel h) (running b) → TellsOf (perform j s b x)
  unfolding perform count
  performs b (stops n) v g a d f = record { counts = c; why = stopped (body_there t (kernel h) b f) d a }
  performs b (sets d x) v g a l f = record { counts = record { instructions = ap suc c.instructions; choices = c.choices; inputs = c.inputs }; why = tt }
  performs b (takes d x) v g a l f = record { counts = record { instructions = ap suc c.instructions; choices = c.choices; inputs = ap suc c.inputs }; why = tt }
  performs b (goes p) v g a l f = record { counts = record { instructions = ap suc c.instructions; choices = c.choices; inputs = c.inputs }; why = tt }
  performs b (does x) v g a l f = record {
    counts = record { instructions = ap suc c.instructions; choices = rw (ran_only b x) c.choices; inputs = rw (a.1 b) c.inputs };
    why = on_either j s (WhyAt j (ran b x ∷ h)) (λ e. tt) tt b _;
  }
  performs b (begins x) v g a l f = record { counts = record { instructions = ap suc c.instructions; choices = c.choices; inputs = c.inputs }; why = tt }

  obeys : (b : Body) → IsDue b → Fits t (kernel h) (running b) → TellsOf (perform j s b (effect_of j s b))
  obeys b d f =
      performs b (effect_of j s b) _ _ (allowed t (view j s b) (number t b) (m.places (number t b)) (body_there t (kernel h) b f) d) d f

  main_ends : (g : Stage) → (clock h).stage ≡ g → ((clock h).stage ≡ during → ⊥) → Why j h (phase_number j s g) 0xff 0
  main_ends before q n = no_start q
  main_ends during q n = absurd (n q)
  main_ends (past v) q n = phase_over q

  tells_branch : (a : Control) (o : Out) → Branch j s a o → Rightly t h → Fits t (kernel h) a → Standing t h a → WhyAt j h a → TellsOf o
  unfolding count
  tells_branch a o (B.obeys b q r) p f g y = obeys b (ltb-true _ _ q) f
  tells_branch a o (B.unpaid b q r) p f g y = performs b (stops 22) 0 before (inl refl) (ltb-true _ _ q) f
  tells_branch a o (B.main_ends q) p f g y = record { counts = c; why = main_ends (kernel h).stage (sym (stage_now h)) g }
  tells_branch a o (B.thread_ends i q) p f g y = record { counts = record { instructions = c.instructions; choices = c.choices; inputs = c.inputs }; why = tt }
  tells_branch a o (B.update_ends u q) p f g y = record { counts = record { instructions = c.instructions; choices = c.choices; inputs = c.inputs }; why = tt }
  tells_branch a o (B.idles q) p f g y = record { counts = c; why = tt }
  tells_branch a o (B.unchosen q r) p f g y = record { counts = c; why = none_left (rw (← c.choices) r) (some_runnable_lem j s p q) }
  tells_branch a o (B.refuses n q r z) p f g y =
      record { counts = c; why = not_runnable n (rw (← c.choices) r) (λ v. true≢false (sym (runnable_runs t h n v) ∙ z)) (some_runnable_lem j s p q) }
  tells_branch a o (B.dispatches n q r z) p f g y = record { counts = record { instructions = c.instructions; choices = ap suc c.choices; inputs = c.inputs }; why = tt }
  tells_branch a o (B.updated q) p f g y = record { counts = c; why = tt }
  tells_branch a o (B.enters u q) p f g y = record { counts = c; why = tt }
  tells_branch a o B.serves p f g y = record { counts = serving_counts m t (kernel h) delta h c; why = tt }
  tells_branch a o (B.turns q) p f g y = record { counts = c; why = tt }
  tells_branch a o (B.waits q) p f g y = record { counts = c; why = tt }
  tells_branch a o (B.quiets q) p f g y = record { counts = record { instructions = c.instructions; choices = c.choices; inputs = c.inputs }; why = tt }
  tells_branch a o (B.limits d q z) p f g y = record { counts = record { instructions = c.instructions; choices = c.choices; inputs = c.inputs }; why = tt }
  tells_branch a o (B.moves d q z) p f g y = record {
    counts = rw append_assoc (serving_counts m t (kernel h) (at d) (moved d ∷ h) (record { instructions = c.instructions; choices = c.choices; inputs = c.inputs }));
    why = tt;
  }
  tells_branch a o (B.rests n b q) p f g y = record { counts = c; why = y }

abbrev TellsAt : Job → State → Type 0
TellsAt j s = Tells j s.history s.machine

tells_from : (j : Job) (n : ℕ) (s : State) → Inv j s → TellsAt j s → TellsAt j (steps j n s)
unfolding step steps
tells_from j zero s i y = y
tells_from j (suc n) s i y =
    tells_from j n (step j s) (inv_step j s i)
    (tells_branch j s y.counts s.machine.control (step_from j s s.machine.control) (branch j s s.machine.control) i.sound.rightly i.fits i.sound.standing y.why)

pub tells : (j : Job) (n : ℕ) → Inv j (init j) → TellsAt j (steps j n (init j))
unfolding count
tells j n i = tells_from j n (init j) i (record { counts = record { instructions = refl; choices = refl; inputs = refl }; why = tt })

-- The answer -----------------------------------------------------------------------------------------------------

unended_is : (t : Table) (h : History) → not_ended t (kernel h) ≡ unended t h
unended_is t h = sum_same _ _ (threads t) (λ i l. ap (λ (b : Bool). if b then 0 else 2 ^ i) (thread_ended h i))

module _ (j : Job) (lent : List ℕ) (s : State) (y : TellsAt j s) where
  told_ends : (n b p : ℕ) → Told j.table s.history (ends j lent s n b p).answer
  told_ends n b p = record {
    time = time_now s.history;
    instructions = y.counts.instructions;
    choices = y.counts.choices;
    inputs = y.counts.inputs;
    threads = unended_is j.table s.history;
  }

  told_from : (c : Control) → Told j.table s.history (outcome_from j lent s c).answer
  told_from (running b) = told_ends 0 0 0
  told_from update_phase = told_ends 0 0 0
  told_from delta_phase = told_ends 0 0 0
  told_from turn = told_ends 0 0 0
  told_from evaluation = told_ends 0 0 0
  told_from time_phase = told_ends 0 0 0
  told_from (over n b p) = told_ends n b p

  pub told_of : Told j.table s.history (outcome_of j lent s).answer
  told_of = told_from s.machine.control

  pub why_of : (n b p : ℕ) → s.machine.control ≡ over n b p → Why j s.history n b p
  why_of n b p e = subst (WhyAt j s.history) e y.why

  pub answered_of : Over s.machine.control → Answered j s.history (outcome_of j lent s).answer
  answered_of o = rw o.is (record { told = told_ends o.number o.body o.place; why = why_of o.number o.body o.place o.is })

accepted_runs : (j : Job) (lent : List ℕ) → Fit j lent → asked j lent ≡ runs j lent
unfolding asked
accepted_runs j lent f = rw (le-ltb _ _ f.choices, le-ltb _ _ f.inputs, le-ltb _ _ f.room, f.accepted)

pub answered_run : (j : Job) (lent : List ℕ) → Inv j (init j) → Fit j lent → Answered j (steps j (bound j) (init j)).history (asked j lent).answer
unfolding runs
answered_run j lent i f = rw (accepted_runs j lent f) (answered_of j lent (steps j (bound j) (init j)) (tells j (bound j) i) (enough j))
