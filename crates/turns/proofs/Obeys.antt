-- An instruction that is not plain is one step of the machine. Assumes nothing.
use Prim.Native.Nat.{ℕ, zero, suc, ◌+◌, ◌-◌, ◌<◌, ◌≤◌}
use mathlib.Core.Path.{◌≡◌, refl, sym, ap, subst, ◌∙◌}
use mathlib.Core.Bool.{Bool, true, false, not, ◌&&◌}
use mathlib.Core.List.{List, ◌∷◌, ◌++◌}
use native.Mathlib.Omega.{arith}
use native.Mathlib.Numerals.{add-one}
use borrow.Author.Tests.{ltb-true, ltb-false, lt-ltb, le-ltb, le-leb, lt-leb, eq-eqb, ne_eqb}
use lib.Dec.{eqb, ltb, leb}
use lib.ListN.{length, get_or, set, length-set}
use lib.Seq.{set-append_left}
use Rattle.std.specs.Prelude.{if◌then◌else◌, Option, Some, None, Ok}
use Rattle.laws.specs.Choice.{between, and_left, and_right}
use Rattle.frame.specs.declared.Frame.{Frame}
use Rattle.frame.specs.Ops.{Meaning, takes_imm, takes_input, one, two, may, load, store, goto, goto_if, holds, wait_event, wait_time, notify, notify_after, request, suspend, resume, start_limit, start, unknown, meaning_of}
use Rattle.frame.specs.Agree.{InCells}
use Rattle.image.specs.Layout.{frame, counts, bodies, len, first}
use Rattle.image.specs.Judge.{judged}
use Rattle.kernel.specs.Search.{Found, none, found, nth, edit}
use Rattle.kernel.specs.Design.{Table, Body, main, thread, update, threads, events, number}
use Rattle.kernel.specs.Kernel.{after_delay, Wait, on, till, Thread, waiting, with_threads, Kernel, Deed, nothing, reads, notifies, asks, waits, requests, suspends, resumes, ran, began, Stage, after, kernel}
use Rattle.kernel.specs.Pending.{is_free, times_of}
use Rattle.kernel.specs.Effect.{Effect, stops, takes, does, begins, stop_if, takes_to, starts_in, main_past, is_never, asks_for, effect}
use Rattle.kernel.specs.Machine.{Job, running, evaluation, over, Machine, State}
use Rattle.kernel.specs.Step.{runs_on, perform, view, effect_of, advance, step}
use Rattle.kernel.proofs.Search.{nth_some}
use Rattle.kernel.proofs.Fits.{Fits, fits_step}
use Rattle.dues.specs.Codes.{last_time, moment_of}
use Rattle.marks.specs.Marks.{may_run}
use Rattle.dues.specs.Dues.{ask_code}
use Rattle.dues.specs.Laws as P
use Rattle.plain.specs.Plain.{is_plain}
use Rattle.shows.specs.Shows.{Lists, Kept, kept, Shows}
use Rattle.shows.proofs.Asks.{may_run_lem, times_are, never_is}
use Rattle.shows.proofs.Happens.{shows_again, shows_trigger, shows_asks, shows_requests, shows_waits_on, shows_waits_till, shows_suspends, shows_resumes}
use Rattle.turns.specs.declared.Control.{Control}
use Rattle.ending.specs.declared.Ending.{Ending as Reason}
use Rattle.ending.specs.declared.Ending.TheVariants.{UnknownOp, TooLate, OutOfPhase, NoInputLeft, TooManyDueTimes}
use Rattle.ending.specs.Ending.{number_of as reason_number}
use Rattle.turns.specs.declared.Control.TheVariants.{Runs, Evaluation, Over}
use Rattle.turns.specs.declared.Now.{Now}
use Rattle.turns.specs.declared.Obeyed.TheVariants.{Goes, Waits, Took, Begins}
use Rattle.turns.specs.declared.Stage.{Stage as StageCode}
use Rattle.turns.specs.declared.Stage.TheVariants.{Before, During, Quiet, Limited}
use Rattle.turns.specs.Stands.{body_of, place_of, limit_of, stage_of, Stands}
use Rattle.turns.specs.Code.{goes_to, marks_to, with_left, Did, did, stopped, is_thread, wait_came, is_past, waited_on, waited_till, adds_time, times_in, due_by, took_by, in_time, starts_by, obeyed, stays_at, next_input, completed_to, completed_at}
use Rattle.turns.proofs.Cells.{seeing, Within}
use Rattle.turns.proofs.Moves.{edited, goes_to_lem}
use Rattle.turns.proofs.Bodies.{number_of, cells_of, place_is, effect_is, effect_within, obeys}

false_true : {A : Type 0} → true ≡ false → A
false_true e =
    let z : ◌≡◌ {A = ℕ} 0 1 = cc in
    absurd (omega arith)

-- an instruction leaves the kernel's single numbers alone
ran_numbers : {A : Type 0} (f : Kernel → A) → ((c k : Kernel) → c.now ≡ k.now → c.limit ≡ k.limit → c.stage ≡ k.stage → f c ≡ f k) → (b : Body) (x : Deed) (k : Kernel) → f (after (ran b x) k) ≡ f k
unfolding after
ran_numbers f h b nothing k = refl
ran_numbers f h b reads k = refl
ran_numbers f h b (notifies e) k = h _ k refl refl refl
ran_numbers f h b (asks e d) k = h _ k refl refl refl
ran_numbers f h main (waits w) k = refl
ran_numbers f h (thread i) (waits w) k = h _ k refl refl refl
ran_numbers f h (update u) (waits w) k = refl
ran_numbers f h b (requests u) k = h _ k refl refl refl
ran_numbers f h b (suspends i) k = h _ k refl refl refl
ran_numbers f h b (resumes i) k = h _ k refl refl refl

-- the tests of the code and of the definition
past_is : (t b : ℕ) (v : StageCode) → main_past (body_of t b) (stage_of v) ≡ is_past b v
unfolding body_of
past_is t zero Before = refl
past_is t zero During = refl
past_is t zero Quiet = refl
past_is t zero Limited = refl
past_is t (suc k) v = rw (ne_eqb (suc k) 0 (λ e. omega arith)) (by (ltb k t))
  where
    by : (z : Bool) → main_past (if z then thread k else update (k - t)) (stage_of v) ≡ false
    by true = refl
    by false = refl

-- a state that runs body b at place p, with an instruction due and paid for
module _ (j : Job) (rest : List ℕ) (good : (judged j.table).number ≡ 0) (b : ℕ) (there : b < bodies j.table) (s : State) (n : Now) (l : Lists) (ps cs : List ℕ) (y p : ℕ) (st : Stands j rest s (with_left (suc y) (goes_to (Runs b) n)) l (set ps b p) cs) (h : ltb p (len j.table b) ≡ true) where
  abbrev t : Table
  t = j.table

  abbrev k : Kernel
  k = kernel s.history

  abbrev m : Machine
  m = s.machine

  abbrev body : Body
  body = body_of (threads t) b

  abbrev i : Frame
  i = frame t (first t b + p)

  abbrev now : Now
  now = with_left (suc y) (goes_to (Runs b) n)

  -- the numbers that show the kernel
  abbrev x : Kept
  x = kept n.marks l

  placed_at : m.places (number t body) ≡ p
  placed_at = place_is j rest good b there s n l ps cs (suc y) p st

  step_is : (e : Effect) → effect_of j s body ≡ e → step j s ≡ advance s (perform j s body e)
  step_is e f = obeys j rest good b there s n l ps cs (suc y) p st h y refl e f

  fits_at : (x : State) → step j s ≡ x → Fits t (kernel x.history) x.machine.control
  fits_at x e = subst (λ (z : State). Fits t (kernel z.history) z.machine.control) e (fits_step j s st.fits)

  -- the places after an instruction that goes on at the next one
  next_place : (q : ℕ) → q < bodies t → get_or (set (set ps b p) b (p + 1)) q 0 ≡ (if eqb q (number t body) then suc (m.places (number t body)) else m.places q)
  next_place q r =
      rw (number_of t b, ap m.places (sym (number_of t b)) ∙ placed_at, ← add-one p)
      (edited (λ z. z) m.places (λ z. p + 1) (set ps b p) (bodies t) b (p + 1) st.counts.all_places st.counts.places (λ w. refl) q r)

  all_places : length (set (set ps b p) b (p + 1)) ≡ bodies t
  all_places = length-set (set ps b p) b (p + 1) ∙ st.counts.all_places

  left_is : suc m.instructions + (suc y - 1) ≡ j.budget
  left_is =
      let e : m.instructions + suc y ≡ j.budget = st.counts.instructions in
      omega arith

  -- The four kinds of effect ------------------------------------------------------------------------------------

  unfoldable pub Follows : Did → Type 0
  Follows d = Stands j rest (step j s) (completed_to (threads t) (length j.inputs) b p d.came d.kept.marks now) d.kept.lists (completed_at b p d.came (set ps b p)) d.cells

  stops_run : (c : Reason) → effect_of j s body ≡ stops (reason_number c) → Follows (stopped c x cs)
  unfolding Follows perform
  stops_run c f =
      goes_to_lem j rest s now l (set ps b p) cs st (Over (reason_number c) b p) (over (reason_number c) (number t body) (m.places (number t body)))
      (rw (placed_at, number_of t b)) (step_is (stops (reason_number c)) f)

  -- where a body stands after what it asked of the kernel
  stays : (d : Deed) (x' : Kept) → Shows t (after (ran body d) k) x' → place_of (threads t) (stays_at (threads t) b x'.marks) ≡ runs_on j s body (kernel (ran body d ∷ s.history))
  unfolding kernel stays_at body_of
  stays d x' w = by b w
    where
      thread_stays : (q : ℕ) (z : Bool) → ltb q (threads t) ≡ true → place_of (threads t) (if not z then Evaluation else Runs (suc q)) ≡ (if z then running (thread q) else evaluation)
      thread_stays q true e = rw e
      thread_stays q false e = refl

      by_kind : (q : ℕ) (z : Bool) → ltb q (threads t) ≡ z → Shows t (after (ran (if z then thread q else update (q - threads t)) d) k) x' → place_of (threads t) (if between 1 (suc q) (threads t) && not (may_run x'.marks (suc q - 1)) then Evaluation else Runs (suc q)) ≡ runs_on j s (if z then thread q else update (q - threads t)) (after (ran (if z then thread q else update (q - threads t)) d) k)
      by_kind q true e v =
          let c : suc q - 1 ≡ q = omega arith in
          let u : Thread = (after (ran (thread q) d) k).threads q in
          let r : may_run x'.marks q ≡ (not u.ended && is_free u.wait && not u.suspended) = may_run_lem t _ x' v q ∙ rw e in
          rw (le-leb 1 (suc q) (omega arith), le-leb (suc q) (threads t) (ltb-true q (threads t) e), c, r)
          (thread_stays q (not u.ended && is_free u.wait && not u.suspended) e)
      by_kind q false e v =
          rw (le-leb 1 (suc q) (omega arith), lt-leb (suc q) (threads t) (omega (arith, ltb-false q (threads t) e)), e)

      by : (b : ℕ) → Shows t (after (ran (body_of (threads t) b) d) k) x' → place_of (threads t) (if is_thread (threads t) b && not (may_run x'.marks (b - 1)) then Evaluation else Runs b) ≡ runs_on j s (body_of (threads t) b) (after (ran (body_of (threads t) b) d) k)
      by zero v = refl
      by (suc q) v = by_kind q (ltb q (threads t)) refl v

  -- after a deed that leaves the machine at c
  does_at : (d : Deed) (x' : Kept) (c : Control) → effect_of j s body ≡ does d → Shows t (after (ran body d) k) x' → place_of (threads t) c ≡ runs_on j s body (kernel (ran body d ∷ s.history)) → Stands j rest (step j s) (with_left (suc y - 1) (marks_to c x'.marks now)) x'.lists (set (set ps b p) b (p + 1)) cs
  unfolding perform kernel
  does_at d x' c f w r =
      let o = st.counts in
      let e = step_is (does d) f in
      subst (λ (z : State). Stands j rest z (with_left (suc y - 1) (marks_to c x'.marks now)) x'.lists (set (set ps b p) b (p + 1)) cs) (sym e)
      (record {
        shows = w;
        counts = record { control = r; time = o.time ∙ sym (ran_numbers (λ c. c.now) (λ c q a e g. a) body d k); limit = o.limit ∙ sym (ran_numbers (λ c. c.limit) (λ c q a e g. e) body d k); stage = o.stage ∙ sym (ran_numbers (λ c. c.stage) (λ c q a e g. g) body d k); instructions = left_is; choices = o.choices; inputs = o.inputs; places = next_place; all_places = all_places; cells = o.cells; all_cells = o.all_cells };
        fits = fits_at _ e;
      })

  does_asked : (d : Deed) (x' : Kept) → effect_of j s body ≡ does d → Shows t (after (ran body d) k) x' → Follows (did Goes x' cs)
  unfolding Follows
  does_asked d x' f w = does_at d x' (stays_at (threads t) b x'.marks) f w (stays d x' w)

  takes_input_lem : (d v : ℕ) → n.taken < length j.inputs → effect_of j s body ≡ takes d v → Follows (did Took x (set cs d v))
  unfolding Follows perform kernel after next_input
  takes_input_lem d v z f =
      let o = st.counts in
      let e = step_is (takes d v) f in
      let w : d < (counts t).cells = subst (Within (counts t).cells) f (effect_within j rest good b there s n l ps cs (suc y) p st (ltb-true p (len t b) h)) in
      let c : set cs d v ≡ set m.cells d v ++ rest = rw o.cells (set-append_left m.cells rest d v (omega (arith, o.all_cells))) in
      subst (λ (z : State). Stands j rest z (completed_to (threads t) (length j.inputs) b p (Ok Took) n.marks now) l (set (set ps b p) b (p + 1)) (set cs d v)) (sym e)
      (record {
        shows = st.shows;
        counts = record { control = refl; time = o.time; limit = o.limit; stage = o.stage; instructions = left_is; choices = o.choices; inputs = rw (lt-ltb n.taken (length j.inputs) z, add-one n.taken) (ap suc o.inputs); places = next_place; all_places = all_places; cells = c; all_cells = length-set m.cells d v ∙ o.all_cells };
        fits = fits_at _ e;
      })

  begins_phase : (v : Option ℕ) (g : Found) → limit_of v ≡ g → effect_of j s body ≡ begins g → Follows (did (Begins v) x cs)
  unfolding Follows perform kernel after
  begins_phase v g q f =
      let o = st.counts in
      let d = step_is (begins g) f in
      subst (λ (z : State). Stands j rest z (completed_to (threads t) (length j.inputs) b p (Ok (Begins v)) n.marks now) l (set (set ps b p) b (p + 1)) cs) (sym d)
      (record {
        shows = shows_again t k x st.shows (after (began g) k) refl refl refl;
        counts = record { control = refl; time = o.time; limit = q; stage = refl; instructions = left_is; choices = o.choices; inputs = o.inputs; places = next_place; all_places = all_places; cells = o.cells; all_cells = o.all_cells };
        fits = tt;
      })

  -- The numbers that show the kernel after each deed -------------------------------------------------------------

  abbrev T : ℕ
  T = threads t

  does_waiting : (d : Deed) (x' : Kept) → effect_of j s body ≡ does d → Shows t (after (ran body d) k) x' → evaluation ≡ runs_on j s body (kernel (ran body d ∷ s.history)) → Follows (did Waits x' cs)
  unfolding Follows
  does_waiting d x' f w r = does_at d x' Evaluation f w r

  -- only a thread waits, and it is one that runs
  thread_free : (q : ℕ) → Fits t k (running (thread q)) → is_free (k.threads q).wait ≡ true
  thread_free q g =
      and_right (not (k.threads q).ended) _ (and_left (not (k.threads q).ended && is_free (k.threads q).wait) _ (and_right (ltb q T) _ g))

  -- a thread that waits gives control back
  gives_back : (q : ℕ) (w : Wait) → is_free w ≡ false → runs_on j s (thread q) (with_threads (edit q (waiting w) k.threads) k) ≡ evaluation
  gives_back q w e = rw (eq-eqb q q refl, e) (off (ltb q T) (not (k.threads q).ended) (not (k.threads q).suspended))
    where
      off : (a c d : Bool) → (if a && (c && false && d) then running (thread q) else evaluation) ≡ evaluation
      off true true d = refl
      off true false d = refl
      off false c d = refl

  -- y is what shows the kernel after thread b - 1 waits for w
  Waited : Wait → Kept → Type 0
  Waited w y = (q : ℕ) → q < T → is_free (k.threads q).wait ≡ true → b ≡ suc q → Shows t (with_threads (edit q (waiting w) k.threads) k) y

  waits_for : (w : Wait) (y : Kept) → is_free w ≡ false → effect_of j s body ≡ does (waits w) → Waited w y → Follows (did (wait_came T b) (if is_thread T b then y else x) cs)
  unfolding Waited after kernel body_of
  waits_for w y e f g = by b refl (subst (Fits t k) (sym st.counts.control) st.fits)
    where
      Here : Bool → Type 0
      Here z = Follows (did (if z then Waits else Goes) (if z then y else x) cs)

      no_thread : Shows t (after (ran body (waits w)) k) x → Here false
      no_thread v = does_asked (waits w) x f v

      by_kind : (q : ℕ) → b ≡ suc q → (z : Bool) → ltb q T ≡ z → body ≡ (if z then thread q else update (q - T)) → Fits t k (running (if z then thread q else update (q - T))) → Here z
      by_kind q v true r a c =
          let u : Shows t (after (ran body (waits w)) k) y = rw a (g q (ltb-true q T r) (thread_free q c) v) in
          does_waiting (waits w) y f u (sym (rw a (gives_back q w e)))
      by_kind q v false r a c = no_thread (rw a st.shows)

      by : (c : ℕ) → b ≡ c → Fits t k (running (body_of T c)) → Here (is_thread T c)
      by zero v a = no_thread (rw v st.shows)
      by (suc q) v a = rw (le-leb 1 (suc q) (omega arith)) (by_kind q v (ltb q T) refl (rw v) a)

  waited_on_lem : (e : ℕ) → e < events t → effect_of j s body ≡ does (waits (on e)) → Follows (did (wait_came T b) (waited_on T b e x) cs)
  unfolding waited_on Waited
  waited_on_lem e h f =
      waits_for (on e) _ refl f
      (λ q r g v. let c : b - 1 ≡ q = omega arith in rw c (shows_waits_on t k x st.shows q e r h g))

  waited_till_lem : (q : ℕ) → q ≤ last_time → effect_of j s body ≡ does (waits (till (moment_of q))) → Follows (did (wait_came T b) (waited_till T b q x) cs)
  unfolding waited_till Waited
  waited_till_lem q h f =
      waits_for (till (moment_of q)) _ refl f
      (λ i r g v. let c : b - 1 ≡ i = omega arith in rw c (shows_waits_till t k x st.shows i q r h g))

  -- a due time asked for, by its number; a is what it does
  due_asked : (adds : Bool) (q : ℕ) (d : Deed) (a : Did) → effect_of j s body ≡ asks_for adds (times_of t k) (moment_of q) d → (q ≤ last_time → effect_of j s body ≡ does d → Follows a) → Follows (due_by adds q x cs a)
  unfolding moment_of
  due_asked adds zero d a f w = w (omega arith) f
  due_asked adds (suc u) d a f w = late (ltb last_time (suc u)) refl
    where
      same_late : (z : Bool) → ltb last_time (suc u) ≡ z → ltb 4294967295 u ≡ z
      same_late true e = lt-ltb 4294967295 u (omega (arith, ltb-true last_time (suc u) e))
      same_late false e = le-ltb 4294967295 u (omega (arith, ltb-false last_time (suc u) e))

      room : ltb last_time (suc u) ≡ false → (z : Bool) → (adds && leb 48 (times_in l)) ≡ z → effect_of j s body ≡ stop_if z 23 (does d) → Follows (if z then stopped TooManyDueTimes x cs else a)
      room e true r g = stops_run TooManyDueTimes g
      room e false r g = w (ltb-false last_time (suc u) e) g

      late : (z : Bool) → ltb last_time (suc u) ≡ z → Follows (if z then stopped TooLate x cs else (if not (eqb (suc u) 0) && (adds && leb 48 (times_in l)) then stopped TooManyDueTimes x cs else a))
      late true e = stops_run TooLate (f ∙ rw (same_late true e))
      late false e =
          rw (ne_eqb (suc u) 0 (λ z. omega arith))
          (room e (adds && leb 48 (times_in l)) refl (f ∙ rw (same_late false e, times_are t k x st.shows)))

  -- 18 first
  in_time_lem : (e : Effect) (d : Did) → effect_of j s body ≡ stop_if (main_past body k.stage) 18 e → (effect_of j s body ≡ e → Follows d) → Follows (in_time b n.stage x cs d)
  in_time_lem e d f w = by (is_past b n.stage) refl
    where
      same : main_past body k.stage ≡ is_past b n.stage
      same = rw (← st.counts.stage) (past_is T b n.stage)

      by : (z : Bool) → is_past b n.stage ≡ z → Follows (if z then stopped OutOfPhase x cs else d)
      by true q = stops_run OutOfPhase (f ∙ rw (same ∙ q))
      by false q = w (f ∙ rw (same ∙ q))

  -- Each instruction ----------------------------------------------------------------------------------------------

  seen_as : (e : Effect) → effect (seeing cs (view j s body)) i (meaning_of i.op) ≡ e → effect_of j s body ≡ e
  seen_as e q = effect_is j rest good b there s n l ps cs (suc y) p st (ltb-true p (len t b) h) ∙ q

  -- the number of the due time that the delay in a leads to
  abbrev q : ℕ
  q = ask_code n.time (get_or cs i.a 0)

  due_is : after_delay k.now (get_or cs i.a 0) ≡ moment_of q
  due_is = rw (← st.counts.time) (sym (P.asked n.time (get_or cs i.a 0)))

  takes_by : (f : Found) → nth j.inputs n.taken ≡ f → effect_of j s body ≡ takes_to i.d (nth j.inputs m.inputs) → Follows (took_by f i.d x cs)
  takes_by f e g = by f e (g ∙ ap (takes_to i.d) (ap (nth j.inputs) (sym st.counts.inputs) ∙ e))
    where
      by : (f : Found) → nth j.inputs n.taken ≡ f → effect_of j s body ≡ takes_to i.d f → Follows (took_by f i.d x cs)
      by none e r = stops_run NoInputLeft r
      by (found v) e r = takes_input_lem i.d v (nth_some j.inputs n.taken v e) r

  starts_by_lem : (v : Option ℕ) → effect_of j s body ≡ starts_in k.stage (limit_of v) → Follows (starts_by n.stage v x cs)
  starts_by_lem v f = by n.stage (f ∙ ap (λ (g : Stage). starts_in g (limit_of v)) (sym st.counts.stage))
    where
      by : (g : StageCode) → effect_of j s body ≡ starts_in (stage_of g) (limit_of v) → Follows (starts_by g v x cs)
      by Before w = begins_phase v (limit_of v) refl w
      by During w = stops_run OutOfPhase w
      by Quiet w = stops_run OutOfPhase w
      by Limited w = stops_run OutOfPhase w

  abbrev obeyed_as : Meaning → Did
  obeyed_as a = obeyed T b i now j.inputs x cs a

  -- what the judge says of the event or update that an instruction names
  names : (a : Meaning) → meaning_of i.op ≡ a → InCells (counts t) i a
  names a e = subst (InCells (counts t) i) e (cells_of j rest good b there p (ltb-true p (len t b) h))

  pub follows_by : (a : Meaning) → meaning_of i.op ≡ a → is_plain a ≡ false → Follows (obeyed_as a)
  unfolding obeyed effect after
  follows_by takes_input e z = takes_by (nth j.inputs n.taken) refl (seen_as _ (rw e))
  follows_by wait_event e z = waited_on_lem i.d ((names wait_event e).event_in refl) (seen_as _ (rw e))
  follows_by wait_time e z =
      due_asked true q (waits (till (moment_of q))) _ (seen_as _ (rw (e, due_is))) (waited_till_lem q)
  follows_by notify e z =
      in_time_lem (does (notifies i.d)) _ (seen_as _ (rw e))
      (λ f. does_asked (notifies i.d) _ f (shows_trigger t k x st.shows i.d ((names notify e).event_in refl)))
  follows_by notify_after e z =
      let g : is_never (k.pends i.d) ≡ adds_time i.d x = never_is t k x st.shows i.d ((names notify_after e).event_in refl) in
      in_time_lem (asks_for (adds_time i.d x) (times_of t k) (moment_of q) (asks i.d (moment_of q))) _ (seen_as _ (rw (e, due_is, g)))
      (λ f. due_asked _ q (asks i.d (moment_of q)) _ f (λ v r. does_asked (asks i.d (moment_of q)) _ r (shows_asks t k x st.shows i.d q ((names notify_after e).event_in refl) v)))
  follows_by request e z =
      in_time_lem (does (requests i.d)) _ (seen_as _ (rw e))
      (λ f. does_asked (requests i.d) _ f (shows_requests t k x st.shows i.d ((names request e).update_in refl)))
  follows_by suspend e z =
      in_time_lem (does (suspends i.d)) _ (seen_as _ (rw e)) (λ f. does_asked (suspends i.d) _ f (shows_suspends t k x st.shows i.d))
  follows_by resume e z =
      in_time_lem (does (resumes i.d)) _ (seen_as _ (rw e)) (λ f. does_asked (resumes i.d) _ f (shows_resumes t k x st.shows i.d))
  follows_by start_limit e z = starts_by_lem (Some i.imm) (seen_as _ (rw e))
  follows_by start e z = starts_by_lem None (seen_as _ (rw e))
  follows_by unknown e z = stops_run UnknownOp (seen_as _ (rw e))
  follows_by takes_imm e z = false_true z
  follows_by (one f) e z = false_true z
  follows_by (two f) e z = false_true z
  follows_by (may f) e z = false_true z
  follows_by load e z = false_true z
  follows_by store e z = false_true z
  follows_by goto e z = false_true z
  follows_by goto_if e z = false_true z
  follows_by (holds v) e z = false_true z
