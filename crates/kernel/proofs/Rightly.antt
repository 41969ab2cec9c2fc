-- Every step keeps it: each happening came when it might, the machine stands where it may, and what stands due lies ahead.
use Prim.Native.Nat.{ℕ, zero, suc, ◌≤◌}
use mathlib.Core.Path.{◌≡◌, refl, ◌∙◌, sym, subst}
use mathlib.Core.Bool.{Bool, true, false, true≢false, false≢true}
use mathlib.Core.Logic.{inl}
use mathlib.Core.List.{[], ◌∷◌, ◌++◌, append_assoc}
use native.Mathlib.Omega.{arith}
use lib.Dec.{eqb}
use borrow.Author.Tests.{ltb-true, ltb-false, eqb-false}
use Rattle.std.specs.Prelude.{if◌then◌else◌}
use Rattle.kernel.specs.Search.{Found, none, found, first}
use Rattle.kernel.specs.Design.{Table, Body, main, thread, update, threads, updates, number}
use Rattle.kernel.specs.Kernel.{Due, never, delta, at, Kernel, Deed, nothing, reads, Happening, ran, ended, dispatched, finished, began, moved, quiet, limited, History, Stage, during, past, after, kernel}
use Rattle.kernel.specs.Pending.{runnable, is_requested, least_time, above, same_due, served}
use Rattle.kernel.specs.Effect.{Effect, stops, sets, takes, goes, does, begins, last_time}
use Rattle.kernel.specs.Machine.{Job, Control, running, update_phase, delta_phase, turn, evaluation, time_phase, over, State, Out, init}
use Rattle.kernel.specs.Step.{due, some_runnable, effect_of, runs_on, perform, view, step_from, step, steps}
use Rattle.kernel.specs.Words.{since, clock, InStage, between, Runnable, Requested, Lull, begun, idle, yet, Lowest, lowest, runs, Underway, starts, goes_on, Work, event, wait, resume, Within, Stands, Still, Earliest, Above}
use Rattle.kernel.specs.Demand.{in_delta, at_time, Might, Rightly, SomeRunnable}
use Rattle.kernel.proofs.Search.{any_none, any_some, first_none, first_found}
use Rattle.kernel.proofs.Served.{served_now}
use Rattle.kernel.proofs.Branch as B
use Rattle.kernel.proofs.Branch.{Branch, branch}
use Rattle.kernel.proofs.Fits.{Fits, fits_step, body_there}
use Rattle.kernel.proofs.Words.{runs_runnable, runnable_runs, wants_requested, requested_wants, time_now, limit_now, stage_now}
use Rattle.kernel.proofs.Due.{due_in, Pending, delta_never, at_never, stands_pending, pending_stands, none_due, found_due, found_first, served_in, pending_back, pending_gone}
use Rattle.kernel.proofs.Ahead.{Ahead, AheadDeed, Allowed, allowed, Later, Foresees, later_on}
use Rattle.kernel.proofs.Serving.{Serving, serve_all}

abbrev NoneUnderway : Table → History → Type 0
NoneUnderway t h = (i : ℕ) → Underway t i h → ⊥

abbrev NoUpdate : Table → History → Type 0
NoUpdate t h = (u : ℕ) → Requested t h u → ⊥

abbrev NoDelta : Table → History → Type 0
NoDelta t h = Stands t h delta → ⊥

abbrev During : History → Type 0
During h = (clock h).stage ≡ during

-- where the machine may stand, after the history h
abbrev pub Standing : Table → History → Control → Type 0
Standing t h (running main) = During h → ⊥
Standing t h (running (thread i)) = During h × Underway t i h
Standing t h (running (update u)) = During h × Lull t h × Lowest t u h
Standing t h update_phase = During h × Lull t h
Standing t h delta_phase = During h × Lull t h × NoUpdate t h
Standing t h turn = During h × Lull t h × NoUpdate t h × NoDelta t h
Standing t h evaluation = During h × NoneUnderway t h
Standing t h time_phase = During h × Still t h
Standing t h (over n b p) = Unit {0}

pub record Sound (t : Table) (h : History) (c : Control) : Type 0 where
  pub rightly : Rightly t h
  pub standing : Standing t h c
  pub later : Later t h
  pub in_range : (clock h).time ≤ last_time

-- Under way ------------------------------------------------------------------------------------------------------

under_runnable : (t : Table) (i : ℕ) (h : History) → Underway t i h → Runnable t h i
under_runnable t i h (starts r) = r
under_runnable t i h (goes_on u r) = r

no_ended : (t : Table) (n i : ℕ) (h : History) → Underway t n (ended i ∷ h) → ⊥
no_ended t n i h u = elim u [ ]

no_began : (t : Table) (n : ℕ) (l : Found) (h : History) → Underway t n (began l ∷ h) → ⊥
no_began t n l h u = elim u [ ]

no_between : (t : Table) (n : ℕ) (x : Happening) (h : History) → between x ≡ true → Underway t n (x ∷ h) → ⊥
no_between t n x h b (starts r) = false≢true b
no_between t n x h b (goes_on u r) = false≢true b

lull_none : (t : Table) (h : History) → Lull t h → NoneUnderway t h
lull_none t h (begun {l = l} {h = r}) i u = no_began t i l r u
lull_none t h (idle n) i u = n i (under_runnable t i h u)
lull_none t h (yet {x = x} {h = r} b l) i u = no_between t i x r b u

-- a thread that can't run after its instruction is not under way
left_off : (t : Table) (i n : ℕ) (d : Deed) (h : History) → (Runnable t (ran (thread n) d ∷ h) n → ⊥) → Underway t i (ran (thread n) d ∷ h) → ⊥
left_off t i n d h q (goes_on u r) = q r

past_during : (n : ℕ) → past n ≡ during → ⊥
past_during n q = let z : ◌≡◌ {A = ℕ} 0 1 = cc in omega arith

pub above_true : (d : ℕ) (f : Found) → above d f ≡ true → Above d f
above_true d none q = absurd (false≢true q)
above_true d (found n) q = ltb-true n d q

above_false : (d : ℕ) (f : Found) → above d f ≡ false → Above d f → ⊥
above_false d none q a = a
above_false d (found n) q a = omega (arith, ltb-false n d q)

-- the kernel's clock is the history's
allowed_now : (t : Table) (f : Found) {n m : ℕ} {s r : Stage} (x : Effect) → n ≡ m → s ≡ r → Allowed t f n s x → Allowed t f m r x
allowed_now t f x p q a = rw (← p, ← q) a

module _ (j : Job) (s : State) where
  abbrev t : Table
  t = j.table

  abbrev h : History
  h = s.history

  abbrev k : Kernel
  k = kernel h

  abbrev Good : Out → Type 0
  Good o = Sound t (o.happens ++ h) o.next.control

  no_runnable : some_runnable j s ≡ false → (i : ℕ) → Runnable t h i → ⊥
  no_runnable q i r = true≢false (sym (runnable_runs t h i r) ∙ any_none (runnable t k) (threads t) q i r.there)

  pub some_runnable_lem : Rightly t h → some_runnable j s ≡ true → SomeRunnable t h
  some_runnable_lem p q = let w = any_some (runnable t k) (threads t) q in (w.0, runs_runnable t h w.0 p w.2)

  no_request : first (is_requested t k) (updates t) ≡ none → NoUpdate t h
  no_request q u r = true≢false (sym (requested_wants t h u r) ∙ first_none (is_requested t k) (updates t) q u r.there)

  module _ (p : Rightly t h) (l : Later t h) (z : (clock h).time ≤ last_time) where
    -- nothing happens; x happens
    stays_at : (c : Control) → Standing t h c → Sound t h c
    stays_at c o = record { rightly = p; standing = o; later = l; in_range = z }

    happens : (x : Happening) (c : Control) → InStage (clock h).stage x → Might t h x → (clock (x ∷ h)).time ≡ (clock h).time → Foresees (clock h).time x → (Rightly t (x ∷ h) → Standing t (x ∷ h) c) → Sound t (x ∷ h) c
    happens x c i m q f o = let r : Rightly t (x ∷ h) = (i, m, p) in record { rightly = r; standing = o r; later = later_on t x h q f l; in_range = rw q z }

    -- A body runs ------------------------------------------------------------------------------------------------

    in_stage : (b : Body) (x : Deed) → Standing t h (running b) → InStage (clock h).stage (ran b x)
    in_stage main x o = o
    in_stage (thread i) x o = o.0
    in_stage (update u) x o = o.0

    might : (b : Body) (x : Deed) → Fits t k (running b) → Standing t h (running b) → Might t h (ran b x)
    might main x f o = tt
    might (thread i) x f o = (under_runnable t i h o.1, o.1)
    might (update u) x f o = record { asked = wants_requested t h u f; lull = o.1; lowest = o.2 }

    has_run : (b : Body) (x : Deed) (c : Control) → Fits t k (running b) → Standing t h (running b) → AheadDeed (clock h).time x → (Rightly t (ran b x ∷ h) → Standing t (ran b x ∷ h) c) → Sound t (ran b x ∷ h) c
    unfolding clock
    has_run b x c f o a g = happens (ran b x) c (in_stage b x o) (might b x f o) refl a g

    -- after an instruction the body goes on, or it is a thread that can't
    goes_or_not : (b : Body) (x : Deed) → Standing t h (running b) → Rightly t (ran b x ∷ h) → Standing t (ran b x ∷ h) (runs_on j s b (kernel (ran b x ∷ h)))
    unfolding clock
    goes_or_not main x o r = o
    goes_or_not (thread i) x o r = go (runnable t (kernel (ran (thread i) x ∷ h)) i) refl
      where
        go : (z : Bool) → runnable t (kernel (ran (thread i) x ∷ h)) i ≡ z → Standing t (ran (thread i) x ∷ h) (if z then running (thread i) else evaluation)
        go true q = (o.0, goes_on o.1 (runs_runnable t (ran (thread i) x ∷ h) i r q))
        go false q = (o.0, λ n u. left_off t n i x h (λ y. true≢false (sym (runnable_runs t (ran (thread i) x ∷ h) i y) ∙ q)) u)
    goes_or_not (update u) x o r = (o.0, yet refl o.1, runs o.2)

    still_on : (b : Body) (x : Deed) → after (ran b x) k ≡ k → Fits t k (running b) → Standing t h (running b) → Rightly t (ran b x ∷ h) → Standing t (ran b x ∷ h) (running b)
    unfolding clock kernel
    still_on main x q f o r = o
    still_on (thread i) x q f o r = (o.0, goes_on o.1 (runs_runnable t (ran (thread i) x ∷ h) i r (rw q f)))
    still_on (update u) x q f o r = (o.0, yet refl o.1, runs o.2)

    goes_by : (b : Body) (x : Deed) → after (ran b x) k ≡ k → AheadDeed (clock h).time x → Fits t k (running b) → Standing t h (running b) → Sound t (ran b x ∷ h) (running b)
    goes_by b x q a f o = has_run b x (running b) f o a (still_on b x q f o)

    performs : (b : Body) (x : Effect) → Allowed t (view j s b).input (clock h).time (clock h).stage x → Fits t k (running b) → Standing t h (running b) → Good (perform j s b x)
    unfolding perform clock after
    performs b (stops n) a f o = stays_at _ tt
    performs b (sets d x) a f o = goes_by b nothing refl tt f o
    performs b (takes d x) a f o = goes_by b reads refl tt f o
    performs b (goes n) a f o = goes_by b nothing refl tt f o
    performs b (does x) a f o = has_run b x (runs_on j s b (kernel (ran b x ∷ h))) f o a.0 (goes_or_not b x o)
    performs b (begins n) a f o = happens (began n) update_phase a tt refl tt (λ r. (refl, begun))

    obeys : (b : Body) → due j s b ≡ true → Fits t k (running b) → Standing t h (running b) → Good (perform j s b (effect_of j s b))
    obeys b d f o =
        let a = allowed t (view j s b) (number t b) (s.machine.places (number t b)) (body_there t k b f) (ltb-true _ _ d) in
        performs b (effect_of j s b) (allowed_now t (view j s b).input (effect_of j s b) (time_now h) (stage_now h) a) f o

    -- Time -------------------------------------------------------------------------------------------------------

    module _ (d : ℕ) (q : least_time t k ≡ found d) where
      ahead_at : (u : ℕ) → Pending t k (at u) → Ahead (clock h).time (at u)
      ahead_at u x = subst (Ahead (clock h).time) x.due (l x.work x.within)

      earliest : Still t h → Earliest t h d
      earliest c = record {
        still = c;
        due = pending_stands t h (at d) (at_never d) (found_due t k d q);
        first = λ u w. found_first t k d q u (stands_pending t h (at u) p w);
        later = (ahead_at d (found_due t k d q)).0;
      }

      -- what is due at d is served, and the rest lies past it
      past_now : (y : Due) (x : Work) → Within t x → due_in k x ≡ y → Ahead d (if same_due y (at d) then never else y)
      past_now never x w e = tt
      past_now delta x w e = tt
      past_now (at u) x w e = go (eqb u d) refl
        where
          go : (z : Bool) → eqb u d ≡ z → Ahead d (if z then never else at u)
          go true r = tt
          go false r =
              let y : Pending t k (at u) = record { work = x; within = w; due = e } in
              (omega (arith, found_first t k d q u y, eqb-false u d r), (ahead_at u y).1)

      moves : During h → Still t h → above d k.limit ≡ false → Sound t (served t k (at d) ++ (moved d ∷ h)) turn
      unfolding kernel after clock since
      moves i c a =
          let r : Serving t (at d) (served t k (at d) ++ (moved d ∷ h)) = serve_all t k (at d) (moved d ∷ h) refl refl (record {
            rightly = (i, (earliest c, λ w. above_false d k.limit a (rw (limit_now h) w)), p);
            in_phase = i;
            lull = yet refl (idle c.no_thread);
            no_update = λ u y. c.no_update u (record { there = y.there; asked = y.asked });
            now = at_time;
          }) in
          record {
            rightly = r.rightly;
            standing = (r.in_phase, r.lull, r.no_update, λ w. c.no_delta (pending_stands t h delta delta_never (pending_back t k (at d) (moved d ∷ h) refl refl delta delta_never (stands_pending t (served t k (at d) ++ (moved d ∷ h)) delta r.rightly w))));
            later = λ x w. rw (← time_now (served t k (at d) ++ (moved d ∷ h)), served_now t k (at d) (moved d ∷ h), served_in t k (at d) (moved d ∷ h) refl refl x w) (past_now (due_in k x) x w refl);
            in_range = rw (← time_now (served t k (at d) ++ (moved d ∷ h)), served_now t k (at d) (moved d ∷ h)) (ahead_at d (found_due t k d q)).1;
          }

    deltas : During h → Lull t h → NoUpdate t h → Sound t (served t k delta ++ h) turn
    deltas i u n =
        let r : Serving t delta (served t k delta ++ h) = serve_all t k delta h refl refl (record { rightly = p; in_phase = i; lull = u; no_update = n; now = in_delta }) in
        let e : (clock (served t k delta ++ h)).time ≡ (clock h).time = sym (time_now (served t k delta ++ h)) ∙ served_now t k delta h ∙ time_now h in
        record {
          rightly = r.rightly;
          standing = (r.in_phase, r.lull, r.no_update, λ w. pending_gone t k delta h refl refl delta_never (stands_pending t (served t k delta ++ h) delta r.rightly w));
          later = λ x w. rw (served_in t k delta h refl refl x w, e) (go (same_due (due_in k x) delta) (due_in k x) (l x w));
          in_range = rw e z;
        }
      where
        go : (z : Bool) (y : Due) → Ahead (clock h).time y → Ahead (clock h).time (if z then never else y)
        go true y a = tt
        go false y a = a

    keeps_branch : (c : Control) (o : Out) → Branch j s c o → Fits t k c → Standing t h c → Good o
    unfolding clock kernel after
    keeps_branch c o (B.obeys b q r) f g = obeys b q f g
    keeps_branch c o (B.unpaid b q r) f g = performs b (stops 22) (inl refl) f g
    keeps_branch c o (B.main_ends q) f g = stays_at _ tt
    keeps_branch c o (B.thread_ends i q) f g =
        happens (ended i) evaluation g.0 (under_runnable t i h g.1, g.1) refl tt (λ r. (g.0, λ n u. no_ended t n i h u))
    keeps_branch c o (B.update_ends u q) f g =
        happens (finished u) update_phase g.0 (record { asked = wants_requested t h u f; lull = g.1; lowest = g.2 }) refl tt (λ r. (g.0, yet refl g.1))
    keeps_branch c o (B.idles q) f g = stays_at update_phase (g.0, idle (no_runnable q))
    keeps_branch c o (B.unchosen q r) f g = stays_at _ tt
    keeps_branch c o (B.refuses n q r z) f g = stays_at _ tt
    keeps_branch c o (B.dispatches n q r z) f g =
        happens (dispatched n) (running (thread n)) g.0 (runs_runnable t h n p z, g.1) refl tt (λ y. (g.0, starts (runs_runnable t (dispatched n ∷ h) n y z)))
    keeps_branch c o (B.updated q) f g = stays_at delta_phase (g.0, g.1, no_request q)
    keeps_branch c o (B.enters u q) f g =
        stays_at (running (update u)) (g.0, g.1, lowest (λ v y r. true≢false (sym (requested_wants t h v r) ∙ (first_found (is_requested t k) (updates t) u q).lowest v y)))
    keeps_branch c o B.serves f g = deltas g.0 g.1 g.2
    keeps_branch c o (B.turns q) f g = stays_at evaluation (g.0, lull_none t h g.1)
    keeps_branch c o (B.waits q) f g = stays_at time_phase (g.0, record { no_thread = no_runnable q; no_update = g.2; no_delta = g.3 })
    keeps_branch c o (B.quiets q) f g =
        happens quiet (running main) g.0 (record { still = g.1; no_due = λ u w. none_due t k q u (stands_pending t h (at u) p w) }) refl tt (λ r. past_during 0)
    keeps_branch c o (B.limits d q a) f g =
        happens limited (running main) g.0 (d, earliest d q g.1, rw (← limit_now h) (above_true d k.limit a)) refl tt (λ r. past_during 10)
    keeps_branch c o (B.moves d q a) f g = rw append_assoc (moves d q g.0 g.1 a)
    keeps_branch c o (B.rests n b q) f g = stays_at _ tt

-- a state of a run
pub record Inv (j : Job) (s : State) : Type 0 where
  pub fits : Fits j.table (kernel s.history) s.machine.control
  pub sound : Sound j.table s.history s.machine.control

pub inv_step : (j : Job) (s : State) → Inv j s → Inv j (step j s)
unfolding step
inv_step j s i = record {
  fits = fits_step j s i.fits;
  sound = keeps_branch j s i.sound.rightly i.sound.later i.sound.in_range s.machine.control (step_from j s s.machine.control) (branch j s s.machine.control) i.fits i.sound.standing;
}

pub inv_steps : (j : Job) (n : ℕ) (s : State) → Inv j s → Inv j (steps j n s)
unfolding steps
inv_steps j zero s i = i
inv_steps j (suc n) s i = inv_steps j n (step j s) (inv_step j s i)

pub inv_init : (j : Job) → Inv j (init j)
unfolding kernel clock
inv_init j = record { fits = tt; sound = record { rightly = tt; standing = λ q. let z : ◌≡◌ {A = ℕ} 0 1 = cc in omega arith; later = later; in_range = omega arith } }
  where
    later : Later j.table []
    later (event e) w = tt
    later (wait i) w = tt
    later (resume i) w = tt
