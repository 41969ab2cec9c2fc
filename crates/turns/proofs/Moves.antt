-- Each phase of the code is one step of the machine. Assumes nothing.
use Prim.Native.Nat.{ℕ, suc, ◌+◌, ◌-◌, ◌<◌, ◌≤◌}
use mathlib.Core.Path.{◌≡◌, refl, sym, ap, subst, ◌∙◌}
use mathlib.Core.Bool.{Bool, true, false}
use mathlib.Core.List.{List, [], ◌∷◌, ◌++◌, append_assoc}
use native.Mathlib.Omega.{arith}
use native.Mathlib.Numerals.{add-one}
use borrow.Author.Tests.{eqb-true, eqb-false, ltb-true, lt-ltb, le-ltb}
use lib.Dec.{eqb, ltb}
use lib.ListN.{length, get_or, set, length-set}
use lib.Seq.{get_or-set_same, get_or-set_other}
use Rattle.std.specs.Prelude.{if◌then◌else◌, Option, Some, None}
use Rattle.laws.specs.Choice.{and_left}
use Rattle.image.specs.Layout.{bodies}
use Rattle.kernel.specs.Search.{Found, none, found, nth, any, first, edit}
use Rattle.kernel.specs.Design.{Table, main, thread, update, threads, updates, number}
use Rattle.kernel.specs.Kernel.{delta, at, Kernel, Happening, dispatched, moved, quiet, limited, after, kernel}
use Rattle.kernel.specs.Pending.{runnable, is_requested, least_time, above, served}
use Rattle.kernel.specs.Machine.{Job, Control as Place, running, update_phase, delta_phase, turn, evaluation, time_phase, over, Machine, State, out, go_to, placed, chose}
use Rattle.kernel.specs.Step.{advance, step}
use Rattle.kernel.proofs.Served.{served_now, served_limit, served_stage}
use Rattle.kernel.proofs.Fits.{Fits, fits_step}
use Rattle.kernel.proofs.Laws.{step_idles, step_unchosen, step_refuses, step_dispatches, step_updated, step_enters, step_serves, step_turns, step_waits, step_quiets, step_limits, step_moves}
use Rattle.marks.specs.Marks.{any_runs, first_asked}
use Rattle.phases.specs.Phases.{served_time}
use Rattle.shows.specs.Shows.{Lists, kept, Shows}
use Rattle.shows.proofs.Asks.{may_run_lem, any_run, asked_first, least_time_lem, due_small}
use Rattle.shows.proofs.Happens.{shows_again}
use Rattle.shows.proofs.Serves.{serves_delta as shows_delta, serves_time as shows_time}
use Rattle.turns.specs.declared.Control.{Control}
use Rattle.ending.specs.declared.Ending.TheVariants.{NoChoiceLeft, NotRunnable}
use Rattle.ending.specs.Ending.{number_of}
use Rattle.turns.specs.declared.Control.TheVariants.{Runs, UpdatePhase, DeltaPhase, Evaluation, TimePhase, Over}
use Rattle.turns.specs.declared.Now.{Now}
use Rattle.turns.specs.declared.Stage.{Stage}
use Rattle.turns.specs.declared.Stage.TheVariants.{Quiet, Limited}
use Rattle.turns.specs.Stands.{body_of, place_of, limit_of, stage_of, Stands}
use Rattle.turns.specs.Code.{goes_to, dispatch, chosen_by, evaluated, enters_to, enters_at, delta_to, delta_in, least_of, closed, moved_to, is_beyond, served_at, timed_by, served_by}

-- one element changed, and what it stands for changed alike
pub edited : {A : Type 0} (dec : ℕ → A) (g : ℕ → A) (f : A → A) (l : List ℕ) (n i v : ℕ) → length l ≡ n → ((e : ℕ) → e < n → dec (get_or l e 0) ≡ g e) → (i < n → dec v ≡ f (dec (get_or l i 0)))
    → (e : ℕ) → e < n → dec (get_or (set l i v) e 0) ≡ edit i f g e
edited dec g f l n i v a s h e b = go (eqb e i) refl
  where
    go : (z : Bool) → eqb e i ≡ z → dec (get_or (set l i v) e 0) ≡ (if z then f (g e) else g e)
    go true q =
        let r : e ≡ i = eqb-true e i q in
        let c : i < n = omega arith in
        rw r (ap dec (get_or-set_same l i v 0 (omega arith)) ∙ h c ∙ ap f (s i c))
    go false q = ap dec (get_or-set_other l i e v 0 (λ r. eqb-false e i q r)) ∙ s e b

-- the machine goes elsewhere, and nothing else changes
module _ (j : Job) (rest : List ℕ) (s : State) (n : Now) (l : Lists) (ps cs : List ℕ) (st : Stands j rest s n l ps cs) where
  abbrev t : Table
  t = j.table

  abbrev k : Kernel
  k = kernel s.history

  abbrev m : Machine
  m = s.machine

  pub goes_to_lem : (c : Control) (p : Place) → place_of (threads t) c ≡ p → step j s ≡ advance s (out [] (go_to p m)) → Stands j rest (step j s) (goes_to c n) l ps cs
  goes_to_lem c p q e =
      let f : Fits t (kernel (step j s).history) (step j s).machine.control = fits_step j s st.fits in
      let g = subst (λ (x : State). Fits t (kernel x.history) x.machine.control) e f in
      let o = st.counts in
      subst (λ (x : State). Stands j rest x (goes_to c n) l ps cs) (sym e)
      (record {
        shows = st.shows;
        counts = record { control = q; time = o.time; limit = o.limit; stage = o.stage; instructions = o.instructions; choices = o.choices; inputs = o.inputs; places = o.places; all_places = o.all_places; cells = o.cells; all_cells = o.all_cells };
        fits = g;
      })

  -- Evaluation
  pub evaluates : place_of (threads t) n.control ≡ evaluation → Stands j rest (step j s) (evaluated j.choices UpdatePhase n) l ps cs
  unfolding evaluated kernel after body_of
  evaluates here = some (any (runnable t k) (threads t)) refl
    where
      stood : m.control ≡ evaluation
      stood = sym st.counts.control ∙ here

      by_choice : any (runnable t k) (threads t) ≡ true → (c : ℕ) → nth j.choices m.choices ≡ found c → (b : Bool) → runnable t k c ≡ b → Stands j rest (step j s) (if b then dispatch c n else goes_to (Over (number_of NotRunnable) 0xff 0) n) l ps cs
      by_choice a c e false r = goes_to_lem (Over (number_of NotRunnable) 0xff 0) (over 21 0xff 0) refl (step_refuses j s c stood a e r)
      by_choice a c e true r =
          let d : step j s ≡ advance s (out (dispatched c ∷ []) (go_to (running (thread c)) (chose m))) = step_dispatches j s c stood a e r in
          let f : Fits t (kernel (step j s).history) (step j s).machine.control = fits_step j s st.fits in
          let g = subst (λ (x : State). Fits t (kernel x.history) x.machine.control) d f in
          subst (λ (x : State). Stands j rest x (dispatch c n) l ps cs) (sym d) (dispatches c (ltb-true c (threads t) (and_left (ltb c (threads t)) _ r)) g)
        where
          dispatches : (c : ℕ) → c < threads t → Fits t (kernel (dispatched c ∷ s.history)) (running (thread c)) → Stands j rest (advance s (out (dispatched c ∷ []) (go_to (running (thread c)) (chose m)))) (dispatch c n) l ps cs
          dispatches c h g =
              let o = st.counts in
              record {
                shows = st.shows;
                counts = record { control = rw (add-one c, lt-ltb c (threads t) h); time = o.time; limit = o.limit; stage = o.stage; instructions = o.instructions; choices = rw (add-one n.chosen) (ap suc o.choices); inputs = o.inputs; places = o.places; all_places = o.all_places; cells = o.cells; all_cells = o.all_cells };
                fits = g;
              }

      next : (f : Found) → nth j.choices n.chosen ≡ f → nth j.choices m.choices ≡ f
      next f e = ap (nth j.choices) (sym st.counts.choices) ∙ e

      chosen : any (runnable t k) (threads t) ≡ true → (f : Found) → nth j.choices n.chosen ≡ f → Stands j rest (step j s) (chosen_by f n) l ps cs
      chosen a none e = goes_to_lem (Over (number_of NoChoiceLeft) 0xff 0) (over 20 0xff 0) refl (step_unchosen j s stood a (next none e))
      chosen a (found c) e = rw (may_run_lem t k (kept n.marks l) st.shows c) (by_choice a c (next (found c) e) (runnable t k c) refl)

      some : (b : Bool) → any (runnable t k) (threads t) ≡ b → Stands j rest (step j s) (if any_runs n.marks then chosen_by (nth j.choices n.chosen) n else goes_to UpdatePhase n) l ps cs
      some true a = rw (any_run t k (kept n.marks l) st.shows, a) (chosen a (nth j.choices n.chosen) refl)
      some false a = rw (any_run t k (kept n.marks l) st.shows, a) (goes_to_lem UpdatePhase update_phase refl (step_idles j s stood a))

  -- The turn to evaluation or time
  pub turns : place_of (threads t) n.control ≡ turn → (b : Bool) → any_runs n.marks ≡ b → Stands j rest (step j s) (if b then goes_to Evaluation n else goes_to TimePhase n) l ps cs
  turns here b a = by b (sym (any_run t k (kept n.marks l) st.shows) ∙ a)
    where
      stood : m.control ≡ turn
      stood = sym st.counts.control ∙ here

      by : (b : Bool) → any (runnable t k) (threads t) ≡ b → Stands j rest (step j s) (if b then goes_to Evaluation n else goes_to TimePhase n) l ps cs
      by true a = goes_to_lem Evaluation evaluation refl (step_turns j s stood a)
      by false a = goes_to_lem TimePhase time_phase refl (step_waits j s stood a)

  -- The delta phase
  pub serves_delta : place_of (threads t) n.control ≡ delta_phase → Stands j rest (step j s) (delta_to n l) (delta_in n l) ps cs
  serves_delta here =
      let d : step j s ≡ advance s (out (served t k delta) (go_to turn m)) = step_serves j s (sym st.counts.control ∙ here) in
      let o = st.counts in
      subst (λ (x : State). Stands j rest x (delta_to n l) (delta_in n l) ps cs) (sym d)
      (record {
        shows = shows_delta t k (kept n.marks l) st.shows s.history refl refl refl;
        counts = record { control = refl; time = o.time ∙ sym (served_now t k delta s.history); limit = o.limit ∙ sym (served_limit t k delta s.history); stage = o.stage ∙ sym (served_stage t k delta s.history); instructions = o.instructions; choices = o.choices; inputs = o.inputs; places = o.places; all_places = o.all_places; cells = o.cells; all_cells = o.all_cells };
        fits = tt;
      })

  -- The update phase
  pub enters_update : place_of (threads t) n.control ≡ update_phase → Stands j rest (step j s) (enters_to (threads t) (first_asked n.marks) n) l (enters_at (threads t) (first_asked n.marks) ps) cs
  unfolding body_of
  enters_update here = rw (asked_first t k (kept n.marks l) st.shows) (by (first (is_requested t k) (updates t)) refl)
    where
      stood : m.control ≡ update_phase
      stood = sym st.counts.control ∙ here

      body : (u : ℕ) → body_of (threads t) (threads t + 1 + u) ≡ update u
      body u =
          let e : threads t + 1 + u ≡ suc (threads t + u) = omega arith in
          let d : threads t + u - threads t ≡ u = omega arith in
          rw (e, le-ltb (threads t + u) (threads t) (omega arith), d)

      by : (f : Found) → first (is_requested t k) (updates t) ≡ f → Stands j rest (step j s) (enters_to (threads t) f n) l (enters_at (threads t) f ps) cs
      by none e = goes_to_lem DeltaPhase delta_phase refl (step_updated j s stood e)
      by (found u) e =
          let d : step j s ≡ advance s (out [] (go_to (running (update u)) (placed (number t (update u)) 0 m))) = step_enters j s u stood e in
          let f : Fits t (kernel (step j s).history) (step j s).machine.control = fits_step j s st.fits in
          let g = subst (λ (x : State). Fits t (kernel x.history) x.machine.control) d f in
          let o = st.counts in
          subst (λ (x : State). Stands j rest x (goes_to (Runs (threads t + 1 + u)) n) l (set ps (threads t + 1 + u) 0) cs) (sym d)
          (record {
            shows = st.shows;
            counts = record { control = ap running (body u); time = o.time; limit = o.limit; stage = o.stage; instructions = o.instructions; choices = o.choices; inputs = o.inputs; places = edited (λ x. x) m.places (λ x. 0) ps (bodies t) (threads t + 1 + u) 0 o.all_places o.places (λ h. refl); all_places = length-set ps (threads t + 1 + u) 0 ∙ o.all_places; cells = o.cells; all_cells = o.all_cells };
            fits = g;
          })

  closes : (x : Happening) (v : Stage) → step j s ≡ advance s (out (x ∷ []) (go_to (running main) m)) → Shows t (after x k) (kept n.marks l) → (after x k).now ≡ k.now → (after x k).limit ≡ k.limit → stage_of v ≡ (after x k).stage → Stands j rest (step j s) (closed v n) l ps cs
  unfolding kernel body_of
  closes x v d a b c e =
      let o = st.counts in
      subst (λ (y : State). Stands j rest y (closed v n) l ps cs) (sym d)
      (record {
        shows = a;
        counts = record { control = refl; time = o.time ∙ sym b; limit = o.limit ∙ sym c; stage = e; instructions = o.instructions; choices = o.choices; inputs = o.inputs; places = o.places; all_places = o.all_places; cells = o.cells; all_cells = o.all_cells };
        fits = tt;
      })

  moves : (d : ℕ) → d ≤ 4294967295 → step j s ≡ advance s (out (served t k (at d) ++ (moved d ∷ [])) (go_to turn m)) → Stands j rest (step j s) (moved_to d (served_time (d + 1) l.pends l.waits l.waiters n.marks) n) (served_at d l) ps cs
  unfolding kernel after
  moves d h e =
      let o = st.counts in
      let a : (served t k (at d) ++ (moved d ∷ [])) ++ s.history ≡ served t k (at d) ++ (moved d ∷ s.history) = append_assoc (served t k (at d)) (moved d ∷ []) s.history in
      subst (λ (y : State). Stands j rest y (moved_to d (served_time (d + 1) l.pends l.waits l.waiters n.marks) n) (served_at d l) ps cs) (sym e)
      (rw a
      (record {
        shows = shows_time t k (kept n.marks l) st.shows (moved d ∷ s.history) refl refl refl d h;
        counts = record { control = refl; time = sym (served_now t k (at d) (moved d ∷ s.history)); limit = o.limit ∙ sym (served_limit t k (at d) (moved d ∷ s.history)); stage = o.stage ∙ sym (served_stage t k (at d) (moved d ∷ s.history)); instructions = o.instructions; choices = o.choices; inputs = o.inputs; places = o.places; all_places = o.all_places; cells = o.cells; all_cells = o.all_cells };
        fits = tt;
      }))

  -- Time
  pub times : place_of (threads t) n.control ≡ time_phase → Stands j rest (step j s) (timed_by (least_of l) n l) (served_by (least_of l) n l) ps cs
  unfolding after
  times here = by (least_of l) refl
    where
      stood : m.control ≡ time_phase
      stood = sym st.counts.control ∙ here

      same_limit : (d : ℕ) (v : Option ℕ) → above d (limit_of v) ≡ is_beyond v d
      same_limit d None = refl
      same_limit d (Some v) = refl

      by_limit : (d : ℕ) → least_time t k ≡ found d → d ≤ 4294967295 → (b : Bool) → is_beyond n.limit d ≡ b → Stands j rest (step j s) (if b then closed Limited n else moved_to d (served_time (d + 1) l.pends l.waits l.waiters n.marks) n) (if b then l else served_at d l) ps cs
      by_limit d e h true w =
          closes limited Limited (step_limits j s d stood e (rw (← st.counts.limit) (same_limit d n.limit ∙ w))) (shows_again t k (kept n.marks l) st.shows (after limited k) refl refl refl) refl refl refl
      by_limit d e h false w =
          moves d h (step_moves j s d stood e (rw (← st.counts.limit) (same_limit d n.limit ∙ w)))

      by : (f : Found) → least_of l ≡ f → Stands j rest (step j s) (timed_by f n l) (served_by f n l) ps cs
      by none e = closes quiet Quiet (step_quiets j s stood (sym (least_time_lem t k (kept n.marks l) st.shows) ∙ e)) (shows_again t k (kept n.marks l) st.shows (after quiet k) refl refl refl) refl refl refl
      by (found d) e =
          by_limit d (sym (least_time_lem t k (kept n.marks l) st.shows) ∙ e) (due_small l.pends l.waits d e) (is_beyond n.limit d) refl
