-- What specs/Demand.antt states, after any number of steps of any run.
use Prim.Native.Nat.{ℕ, suc}
use mathlib.Core.Path.{◌≡◌, refl, ap, ◌∙◌, sym, subst}
use mathlib.Core.Bool.{Bool, true, false, true≢false}
use mathlib.Core.List.{[], ◌∷◌, ◌++◌, append_assoc}
use native.Mathlib.Omega.{arith}
use lib.ListN.{length}
use borrow.Author.Tests.{lt-ltb}
use Rattle.kernel.specs.Search.{Found, none, found, nth}
use Rattle.kernel.specs.Design.{Table, threads}
use Rattle.kernel.specs.Kernel.{at, on, till, Happening, dispatched, moved, quiet, limited, History, kernel}
use Rattle.kernel.specs.Pending.{runnable, least_time, above, served}
use Rattle.kernel.specs.Machine.{Job, Control, turn, evaluation, time_phase, over, State, Out, init}
use Rattle.kernel.specs.Step.{some_runnable, move_to, advance, step_from, step, steps}
use Rattle.kernel.specs.Words.{Among, newest, clock, Runnable, Still, Nothing, Earliest, Above, accepted}
use Rattle.kernel.specs.Demand.{Might, Rightly, InPhase, added, Time, choice, SomeRunnable, Chooses, Comes, Kept, Demand}
use Rattle.kernel.proofs.Search.{any_none}
use Rattle.kernel.proofs.Branch as B
use Rattle.kernel.proofs.Branch.{Branch, branch}
use Rattle.kernel.proofs.Laws.{steps_last, from_branch, step_by, step_unchosen, step_refuses, step_dispatches, step_quiets, step_limits}
use Rattle.kernel.proofs.Words.{pends, pends_one, on_waits, waits_on_lem, thread_ended, thread_suspended, thread_resuming, runs_runnable, runnable_runs, wants_requested, requested_wants, time_now, limit_now, stage_now}
use Rattle.kernel.proofs.Due.{Pending, at_never, stands_pending, pending_stands, due_none, due_found}
use Rattle.kernel.proofs.Ahead.{Ahead}
use Rattle.kernel.proofs.Rightly.{Standing, above_true, some_runnable_lem, Inv, inv_step, inv_steps, inv_init}
use Rattle.kernel.proofs.Comes.{not_true, ComesToTime, come}
use Rattle.kernel.proofs.Moments.{moment_since, rightly_at, time_forth, frees_at}
use Rattle.kernel.proofs.Serves.{among_right, moved_as, serves_when}
use Rattle.kernel.proofs.Told.{tells, told_of, why_of, answered_run}

-- no history is its own beginning
grows : (x : Happening) (h : History) → h ≡ x ∷ h → ⊥
grows x h q = let e : length h ≡ suc (length h) = ap length q in omega arith

above_is : (d : ℕ) (f : Found) → Above d f → above d f ≡ true
above_is d none a = absurd a
above_is d (found l) a = lt-ltb l d a

above_not : (d : ℕ) (f : Found) → (Above d f → ⊥) → above d f ≡ false
above_not d f n = not_true (above d f) (λ q. n (above_true d f q))

module _ (j : Job) (s : State) (i : Inv j s) where
  abbrev t : Table
  t = j.table

  abbrev h : History
  h = s.history

  right : Rightly t h
  right = i.sound.rightly

  happened : (x : Happening) → (step j s).history ≡ x ∷ h → Might t h x
  happened x q = (subst (Rightly t) q (inv_step j s i).sound.rightly).1

  module _ (e : s.machine.control ≡ time_phase) where
    to_quiet : Nothing t h → (step j s).history ≡ quiet ∷ h
    to_quiet n = ap (λ (x : State). x.history) (step_quiets j s e (due_none t (kernel h) (λ u w. n.no_due u (pending_stands t h (at u) (at_never u) w))))

    least_is : (d : ℕ) → Earliest t h d → least_time t (kernel h) ≡ found d
    least_is d n = due_found t (kernel h) d (stands_pending t h (at d) right n.due) (λ u w. n.first u (pending_stands t h (at u) (at_never u) w))

    to_limited : (d : ℕ) → Earliest t h d → Above d (clock h).limit → (step j s).history ≡ limited ∷ h
    to_limited d n a =
        ap (λ (x : State). x.history) (step_limits j s d e
        (least_is d n)
        (above_is d (kernel h).limit (rw (limit_now h) a)))

    abbrev move : ℕ → History
    move d = (move_to j s d).happens

    adds : added j s ≡ (step_from j s time_phase).happens
    adds = ap (λ (c : Control). (step_from j s c).happens) e

    to_moved : (d : ℕ) → Earliest t h d → (Above d (clock h).limit → ⊥) → added j s ≡ move d
    to_moved d n a =
        adds ∙ ap (λ (o : Out). o.happens) (from_branch j s time_phase _ (B.moves d
        (least_is d n)
        (above_not d (kernel h).limit (λ w. a (rw (← limit_now h) w)))))

    moved_might : (d : ℕ) → Among (moved d) (added j s) → Might t h (moved d)
    unfolding step
    moved_might d y =
        let r : Rightly t (served t (kernel h) (at d) ++ (moved d ∷ h)) = subst (Rightly t) (ap (λ (x : History). x ++ h) (moved_as j s d y) ∙ append_assoc (served t (kernel h) (at d)) (moved d ∷ []) h) (inv_step j s i).sound.rightly in
        (rightly_at t (moved d ∷ h) (served t (kernel h) (at d) ++ (moved d ∷ h)) (moment_since (served t (kernel h) (at d)) (moved d ∷ h)) r).1

    time_of : Time j s
    time_of = record {
      ends_quiet = (to_quiet, happened quiet);
      ends_limited = ((λ w. to_limited w.0 w.1 w.2), happened limited);
      moves = λ d. ((λ w. subst (Among (moved d)) (sym (to_moved d w.0 w.1)) (among_right (moved d) (served t (kernel h) (at d)) (moved d ∷ []) newest)), moved_might d);
    }

  module _ (e : s.machine.control ≡ evaluation) (c : s.machine.choices ≡ accepted h) where
    -- the machine's next choice is the history's
    same : nth j.choices s.machine.choices ≡ choice j h
    same = ap (nth j.choices) c

    some : SomeRunnable t h → some_runnable j s ≡ true
    some w = go (some_runnable j s) refl
      where
        go : (b : Bool) → some_runnable j s ≡ b → some_runnable j s ≡ true
        go true q = q
        go false q = absurd (true≢false (sym (runnable_runs t h w.0 w.1) ∙ any_none (runnable t (kernel h)) (threads t) q w.0 w.1.there))

    -- what the step came to tells which branch it took
    was_dispatched : (c : ℕ) (o : Out) → Branch j s evaluation o → (advance s o).history ≡ dispatched c ∷ h → choice j h ≡ found c
    was_dispatched c o (B.idles q) z = absurd (grows (dispatched c) h z)
    was_dispatched c o (B.unchosen p q) z = absurd (grows (dispatched c) h z)
    was_dispatched c o (B.refuses d p q r) z = absurd (grows (dispatched c) h z)
    was_dispatched c o (B.dispatches d p q r) z = let y : d ≡ c = cc in sym same ∙ q ∙ ap found y

    was_20 : (o : Out) → Branch j s evaluation o → o.next.control ≡ over 20 0xff 0 → (choice j h ≡ none) × (SomeRunnable t h)
    was_20 o (B.idles q) z = let y : ◌≡◌ {A = ℕ} 0 1 = cc in absurd (omega arith)
    was_20 o (B.unchosen p q) z = (sym same ∙ q, some_runnable_lem j s right p)
    was_20 o (B.refuses d p q r) z = let y : ◌≡◌ {A = ℕ} 20 21 = cc in absurd (omega arith)
    was_20 o (B.dispatches d p q r) z = let y : ◌≡◌ {A = ℕ} 0 1 = cc in absurd (omega arith)

    was_21 : (o : Out) → Branch j s evaluation o → o.next.control ≡ over 21 0xff 0 → (c : ℕ) × (choice j h ≡ found c) × (Runnable t h c → ⊥) × (SomeRunnable t h)
    was_21 o (B.idles q) z = let y : ◌≡◌ {A = ℕ} 0 1 = cc in absurd (omega arith)
    was_21 o (B.unchosen p q) z = let y : ◌≡◌ {A = ℕ} 20 21 = cc in absurd (omega arith)
    was_21 o (B.refuses d p q r) z = (d, sym same ∙ q, (λ y. true≢false (sym (runnable_runs t h d y) ∙ r)), some_runnable_lem j s right p)
    was_21 o (B.dispatches d p q r) z = let y : ◌≡◌ {A = ℕ} 0 1 = cc in absurd (omega arith)

    stepped : step j s ≡ advance s (step_from j s evaluation)
    stepped = step_by j s evaluation (step_from j s evaluation) e (branch j s evaluation)

    chooses_of : Chooses j s
    chooses_of = record {
      accepts = λ c. (
        (λ w. ap (λ (x : State). x.history) (step_dispatches j s c e (some (c, w.1)) (same ∙ w.0) (runnable_runs t h c w.1))),
        (λ q. (was_dispatched c (step_from j s evaluation) (branch j s evaluation) (sym (ap (λ (x : State). x.history) stepped) ∙ q), (happened (dispatched c) q).0)),
      );
      used_up = (
        (λ w. ap (λ (x : State). x.machine.control) (step_unchosen j s e (some w.1) (same ∙ w.0))),
        (λ q. was_20 (step_from j s evaluation) (branch j s evaluation) (sym (ap (λ (x : State). x.machine.control) stepped) ∙ q)),
      );
      refused = (
        (λ w. ap (λ (x : State). x.machine.control) (step_refuses j s w.0 e (some w.3) (same ∙ w.1) (not_true (runnable t (kernel h) w.0) (λ q. w.2 (runs_runnable t h w.0 right q))))),
        (λ q. was_21 (step_from j s evaluation) (branch j s evaluation) (sym (ap (λ (x : State). x.machine.control) stepped) ∙ q)),
      );
    }

module _ (j : Job) (s : State) (i : Inv j s) (l : InPhase s.machine.control) where
  abbrev Then : ComesToTime j s → State
  Then c = steps j c.after s

  comes_with : (x : Happening) → (c : ComesToTime j s) → (step j (Then c)).history ≡ x ∷ (Then c).history → Comes j s x
  comes_with x c q = (suc c.after, ap (λ (z : State). z.history) (steps_last j c.after s) ∙ q ∙ ap (λ (h : History). x ∷ h) c.same)

  to_time : Still j.table s.history → ComesToTime j s
  to_time c = come j s.history i.sound.rightly c s.machine s.machine.control refl i.fits l

  -- and what has come might come
  came : (x : Happening) → Comes j s x → Might j.table s.history x
  came x w = (subst (Rightly j.table) w.1 (inv_steps j w.0 s i).sound.rightly).1

  comes_quiet : Nothing j.table s.history → Comes j s quiet
  comes_quiet n =
      let c : ComesToTime j s = to_time n.still in
      comes_with quiet c ((time_of j (Then c) (inv_steps j c.after s i) c.there).ends_quiet.0 (rw c.same n))

  comes_limited : (d : ℕ) → Earliest j.table s.history d → Above d (clock s.history).limit → Comes j s limited
  comes_limited d n a =
      let c : ComesToTime j s = to_time n.still in
      comes_with limited c ((time_of j (Then c) (inv_steps j c.after s i) c.there).ends_limited.0 (d, rw c.same n, rw c.same a))

kept : (j : Job) (n : ℕ) → Kept j (steps j n (init j))
kept j n =
    let s : State = steps j n (init j) in
    let i : Inv j s = inv_steps j n (init j) (inv_init j) in
    let r : Rightly j.table s.history = i.sound.rightly in
    let y = tells j n (inv_init j) in
    record {
      one_pends = pends s.history;
      no_other = pends_one s.history;
      rightly = r;
      serves_when = serves_when j s r;
      served = λ e. let g : Standing j.table s.history turn = subst (Standing j.table s.history) e i.sound.standing in (g.2, g.3);
      ahead = λ u w.
          let p : Pending j.table (kernel s.history) (at u) = stands_pending j.table s.history (at u) r w in
          (subst (Ahead (clock s.history).time) p.due (i.sound.later p.work p.within)).0;
      holds = λ a e. (on_waits s.history a (on e) refl, waits_on_lem j.table a (on e) refl s.history r);
      sleeps = λ a d. (on_waits s.history a (till d) refl, waits_on_lem j.table a (till d) refl s.history r);
      marks = record {
        ended = thread_ended s.history;
        suspended = thread_suspended s.history;
        resuming = thread_resuming s.history;
        runs = λ a. (runs_runnable j.table s.history a r, runnable_runs j.table s.history a);
        requested = λ u. (wants_requested j.table s.history u, requested_wants j.table s.history u);
        now = time_now s.history;
        limit = limit_now s.history;
        stage = stage_now s.history;
      };
      frees = λ x g m a w. frees_at j.table x g (rightly_at j.table (x ∷ g) s.history m r) a w;
      never_back = λ g m. time_forth j.table g s.history m r;
      in_range = i.sound.in_range;
      time = λ e. time_of j s i e;
      ends_quiet = λ l. (comes_quiet j s i l, came j s i l quiet);
      ends_limited = λ l. ((λ w. comes_limited j s i l w.0 w.1 w.2), came j s i l limited);
      chooses = λ e. chooses_of j s i e y.counts.choices;
      told = λ lent. told_of j lent s y;
      why = why_of j [] s y;
    }

pub demand : Demand
demand = record { kept = kept; answered = λ j lent. answered_run j lent (inv_init j) }
