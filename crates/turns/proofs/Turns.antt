-- Each turn of the code is some steps of the machine, one at least. Assumes nothing.
use Prim.Native.Nat.{ℕ, zero, suc, ◌+◌, ◌-◌, ◌<◌, ◌≤◌}
use mathlib.Core.Path.{◌≡◌, refl, sym, ap, subst, ◌∙◌}
use mathlib.Core.Bool.{Bool, true, false}
use mathlib.Core.List.{List}
use native.Mathlib.Omega.{arith}
use native.Mathlib.Numerals.{add-one}
use borrow.Author.Tests.{ltb-true, ltb-false, le-ltb, le-leb, lt-leb, ne_eqb}
use lib.Dec.{eqb, ltb, leb}
use lib.ListN.{length, get_or, set, length-append}
use lib.Seq.{set-get_or}
use Rattle.std.specs.Prelude.{if◌then◌else◌}
use Rattle.laws.specs.Choice.{and_left}
use Rattle.frame.specs.Ops.{meaning_of}
use Rattle.image.specs.Limits.{most_cells}
use Rattle.image.specs.Layout.{frame, bodies, len, lengths, first, due as due_frames}
use Rattle.image.specs.Judge.{fault, judged}
use Rattle.image.proofs.Walk.{lengths_grow, first_next, first_grows, due_above}
use Rattle.image.proofs.Accepted.{accepted_has, few_instructions}
use Rattle.kernel.specs.Search.{Found, none, found, nth}
use Rattle.kernel.specs.Design.{Table, main, thread, update, threads, updates, number, cells}
use Rattle.kernel.specs.Kernel.{Kernel, after, kernel}
use Rattle.kernel.specs.Effect.{stops}
use Rattle.kernel.specs.Machine.{Job, running, turn as turn_place, evaluation, over, Machine, State}
use Rattle.kernel.specs.Step.{due, perform, phase_number as end_number, advance, step, steps}
use Rattle.kernel.proofs.Fits.{Fits}
use Rattle.kernel.proofs.Enough.{stays, steps_add}
use Rattle.kernel.proofs.Laws.{steps_one, steps_last, step_main_ends, step_thread_ends, step_update_ends}
use Rattle.marks.specs.Marks.{may_run, any_runs, first_asked, ended_by, finished_by}
use Rattle.shows.specs.Shows.{Lists, Kept, kept}
use Rattle.shows.proofs.Happens.{shows_ends, shows_finishes}
use Rattle.plain.specs.declared.End.{End}
use Rattle.plain.specs.declared.End.TheVariants.{Ended, Left, Stopped}
use Rattle.plain.specs.Plain.{is_plain, Out, able, plain, run_plain}
use Rattle.ending.specs.declared.Ending.{Ending as Reason}
use Rattle.ending.specs.declared.Ending.TheVariants.{NotRunnable}
use Rattle.ending.specs.Ending.{number_of as reason_number}
use Rattle.turns.specs.declared.Control.{Control}
use Rattle.turns.specs.declared.Control.TheVariants.{Runs, UpdatePhase, DeltaPhase, Turn, Evaluation, TimePhase, Over}
use Rattle.turns.specs.declared.Now.{Now}
use Rattle.turns.specs.declared.Stage.{Stage}
use Rattle.turns.specs.declared.Stage.TheVariants.{Before, During, Quiet, Limited}
use Rattle.turns.specs.Stands.{body_of, place_of, stage_of, Stands}
use Rattle.turns.specs.Code.{Code, code, goes_to, marks_to, with_left, dispatch, chosen_by, evaluated, when_idle, phase_ending, ends_to, ran_to, after_plain, body_run, settled_from, settled, settled_in, turn_from, turn}
use Rattle.turns.proofs.Moves.{goes_to_lem, evaluates, turns, serves_delta, enters_update, times}
use Rattle.turns.proofs.Bodies.{number_of, place_is, paid_is, Ending, PlainRan, ran_plain}
use Rattle.turns.proofs.Obeys.{Follows, follows_by}

abbrev pub StandsAt : (j : Job) (rest : List ℕ) (s : State) → Code → Type 0
StandsAt j rest s c = Stands j rest s c.now c.lists c.places c.cells

-- one step on, or more
pub record Reaches (j : Job) (rest : List ℕ) (s : State) (c : Code) : Type 0 where
  pub more : ℕ
  pub stands : StandsAt j rest (steps j (suc more) s) c

reaches_one : (j : Job) (rest : List ℕ) (s : State) (c : Code) → StandsAt j rest (step j s) c → Reaches j rest s c
reaches_one j rest s c h = record { more = 0; stands = subst (λ (x : State). StandsAt j rest x c) (sym (steps_one j s)) h }

reaches_two : (j : Job) (rest : List ℕ) (s : State) (c : Code) → StandsAt j rest (step j (step j s)) c → Reaches j rest s c
unfolding steps
reaches_two j rest s c h = record { more = 1; stands = subst (λ (x : State). StandsAt j rest x c) (sym (steps_one j (step j s))) h }

-- A body's end ----------------------------------------------------------------------------------------------------

module _ (j : Job) (rest : List ℕ) (s : State) (b : ℕ) (n : Now) (l : Lists) (ps cs : List ℕ) (st : Stands j rest s (goes_to (Runs b) n) l ps cs) where
  abbrev t : Table
  t = j.table

  abbrev T : ℕ
  T = threads t

  abbrev k : Kernel
  k = kernel s.history

  abbrev m : Machine
  m = s.machine

  number_said : (v : Stage) → reason_number (phase_ending v) ≡ end_number j s (stage_of v)
  number_said Before = refl
  number_said During = refl
  number_said Quiet = refl
  number_said Limited = refl

  main_ends : m.control ≡ running main → due j s main ≡ false → Stands j rest (step j s) (goes_to (Over (reason_number (phase_ending n.stage)) 0xff 0) n) l ps cs
  main_ends e d =
      goes_to_lem j rest s (goes_to (Runs b) n) l ps cs st (Over (reason_number (phase_ending n.stage)) 0xff 0) (over (end_number j s k.stage) 0xff 0)
      (ap (λ (x : ℕ). over x 0xff 0) (number_said n.stage ∙ ap (end_number j s) st.counts.stage)) (step_main_ends j s e d)

  -- the numbers that show the kernel
  abbrev x : Kept
  x = kept n.marks l

  thread_ends : (q : ℕ) → m.control ≡ running (thread q) → due j s (thread q) ≡ false → Stands j rest (step j s) (marks_to Evaluation (ended_by q n.marks) n) l ps cs
  unfolding kernel after
  thread_ends q e d =
      let o = st.counts in
      subst (λ (z : State). Stands j rest z (marks_to Evaluation (ended_by q n.marks) n) l ps cs) (sym (step_thread_ends j s q e d))
      (record {
        shows = shows_ends t k x st.shows q;
        counts = record { control = refl; time = o.time; limit = o.limit; stage = o.stage; instructions = o.instructions; choices = o.choices; inputs = o.inputs; places = o.places; all_places = o.all_places; cells = o.cells; all_cells = o.all_cells };
        fits = tt;
      })

  update_ends : (u : ℕ) → m.control ≡ running (update u) → due j s (update u) ≡ false → Stands j rest (step j s) (marks_to UpdatePhase (finished_by u n.marks) n) l ps cs
  unfolding kernel after
  update_ends u e d =
      let o = st.counts in
      subst (λ (z : State). Stands j rest z (marks_to UpdatePhase (finished_by u n.marks) n) l ps cs) (sym (step_update_ends j s u e d))
      (record {
        shows = shows_finishes t k x st.shows u;
        counts = record { control = refl; time = o.time; limit = o.limit; stage = o.stage; instructions = o.instructions; choices = o.choices; inputs = o.inputs; places = o.places; all_places = o.all_places; cells = o.cells; all_cells = o.all_cells };
        fits = tt;
      })

  pub body_ends : due j s (body_of T b) ≡ false → Stands j rest (step j s) (ends_to T b (goes_to (Runs b) n)) l ps cs
  unfolding ends_to body_of
  body_ends d = by b (sym st.counts.control) d
    where
      by_kind : (q : ℕ) (z : Bool) → ltb q T ≡ z → m.control ≡ running (if z then thread q else update (q - T)) → due j s (if z then thread q else update (q - T)) ≡ false → Stands j rest (step j s) (if leb (suc q) T then marks_to Evaluation (ended_by (suc q - 1) n.marks) n else marks_to UpdatePhase (finished_by (suc q - 1 - T) n.marks) n) l ps cs
      by_kind q true r e d =
          let v : suc q - 1 ≡ q = omega arith in
          rw (le-leb (suc q) T (ltb-true q T r), v) (thread_ends q e d)
      by_kind q false r e d =
          let v : suc q - 1 ≡ q = omega arith in
          rw (lt-leb (suc q) T (omega (arith, ltb-false q T r)), v) (update_ends (q - T) e d)

      by : (b : ℕ) → m.control ≡ running (body_of T b) → due j s (body_of T b) ≡ false → Stands j rest (step j s) (if eqb b 0 then goes_to (Over (reason_number (phase_ending n.stage)) 0xff 0) n else (if leb b T then marks_to Evaluation (ended_by (b - 1) n.marks) n else marks_to UpdatePhase (finished_by (b - 1 - T) n.marks) n)) l ps cs
      by zero e d = main_ends e d
      by (suc q) e d = rw (ne_eqb (suc q) 0 (λ z. omega arith)) (by_kind q (ltb q T) refl e d)

  -- the body that runs is one of the design's
  pub body_there : b < bodies t
  unfolding bodies body_of
  body_there = by b (subst (Fits t k) (sym st.counts.control) st.fits)
    where
      by_kind : (q : ℕ) (z : Bool) → ltb q T ≡ z → Fits t k (running (if z then thread q else update (q - T))) → suc q < 1 + T + updates t
      by_kind q true r f = omega (arith, ltb-true q T r)
      by_kind q false r f = omega (arith, ltb-true (q - T) (updates t) (and_left (ltb (q - T) (updates t)) (k.requested (q - T)) f), ltb-false q T r)

      by : (b : ℕ) → Fits t k (running (body_of T b)) → b < 1 + T + updates t
      by zero f = omega arith
      by (suc q) f = by_kind q (ltb q T) refl f

-- A body's turn ---------------------------------------------------------------------------------------------------

-- what holds all along: the table is accepted, the line of each body's first instruction is at hand, and there are as many cells as a field can name
pub record Given (j : Job) (rest : List ℕ) (firsts : List ℕ) : Type 0 where
  pub good : (judged j.table).number ≡ 0
  pub lines : (k : ℕ) → k ≤ bodies j.table → get_or firsts k 0 ≡ first j.table k
  pub room : most_cells ≤ cells j.table + length rest

module _ (j : Job) (rest firsts : List ℕ) (g : Given j rest firsts) where
  module _ (b : ℕ) (there : b < bodies j.table) where
    len_is : get_or firsts (b + 1) 0 - get_or firsts b 0 ≡ len j.table b
    len_is =
        let e : get_or firsts (b + 1) 0 ≡ first j.table (suc b) = g.lines (b + 1) (omega arith) ∙ ap (first j.table) (add-one b) in
        let f : get_or firsts b 0 ≡ first j.table b = g.lines b (omega arith) in
        omega (arith, first_next j.table b)

    in_table : first j.table b + len j.table b ≤ length j.table
    unfolding due_frames
    in_table =
        omega (arith, (accepted_has j.table g.good).all_due, first_next j.table b, first_grows j.table (suc b) (bodies j.table) there)

    short : len j.table b ≤ 1024
    unfolding lengths
    short =
        let a = accepted_has j.table g.good in
        let f : (i : ℕ) → i ≤ bodies j.table → fault j.table i ≡ 0 = λ i h. a.faultless i (omega (arith, a.all_due, due_above j.table)) in
        omega (arith, lengths_grow j.table (suc b) (bodies j.table) there, few_instructions j.table f)

    able_is : (cs : List ℕ) → most_cells ≤ length cs → able j.table (first j.table b) (len j.table b) cs ≡ true
    able_is cs h = rw (le-leb (first j.table b + len j.table b) (length j.table) in_table, le-leb (len j.table b) 1024 short, le-leb 256 (length cs) h)

    module _ (s : State) (n : Now) (l : Lists) (ps cs : List ℕ) (st : Stands j rest s (goes_to (Runs b) n) l ps cs) where
      abbrev tb : Table
      tb = j.table

      -- where the plain instructions ended in s'
      module _ (s' : State) (p x : ℕ) (ds : List ℕ) (sp : Stands j rest s' (with_left x (goes_to (Runs b) n)) l (set ps b p) ds) where
        abbrev now : Now
        now = with_left x (goes_to (Runs b) n)

        stopped : (c : Reason) → step j s' ≡ advance s' (perform j s' (body_of (threads tb) b) (stops (reason_number c))) → StandsAt j rest (step j s') (ran_to tb j.inputs (threads tb) (first tb b) b (Stopped c) p now l (set ps b p) ds)
        unfolding perform
        stopped c e =
            goes_to_lem j rest s' now l (set ps b p) ds sp (Over (reason_number c) b p) (over (reason_number c) (number tb (body_of (threads tb) b)) (s'.machine.places (number tb (body_of (threads tb) b))))
            (rw (place_is j rest g.good b there s' n l ps ds x p sp, number_of tb b)) e

        lost : {A : Type 0} → false ≡ true → A
        lost e =
            let z : ◌≡◌ {A = ℕ} 0 1 = cc in
            absurd (omega arith)

      -- the instruction that is not plain
      obeyed_there : (s' : State) (p x : ℕ) (ds : List ℕ) → Stands j rest s' (with_left x (goes_to (Runs b) n)) l (set ps b p) ds → ltb 0 x ≡ true → ltb p (len tb b) ≡ true → is_plain (meaning_of (frame tb (first tb b + p)).op) ≡ false
          → StandsAt j rest (step j s') (ran_to tb j.inputs (threads tb) (first tb b) b Left p (with_left x (goes_to (Runs b) n)) l (set ps b p) ds)
      unfolding Follows
      obeyed_there s' p zero ds sp e h z = lost s' p zero ds sp (sym (le-ltb 0 0 (omega arith)) ∙ e)
      obeyed_there s' p (suc y) ds sp e h z =
          follows_by j rest g.good b there s' n l ps ds y p sp h (meaning_of (frame tb (first tb b + p)).op) refl z

      after_plain_lem : (s' : State) (e : End) (p x : ℕ) (ds : List ℕ) → Stands j rest s' (with_left x (goes_to (Runs b) n)) l (set ps b p) ds → Ending j rest g.good b there s' e p
          → StandsAt j rest (step j s') (ran_to tb j.inputs (threads tb) (first tb b) b e p (with_left x (goes_to (Runs b) n)) l (set ps b p) ds)
      after_plain_lem s' Ended p x ds sp f = body_ends j rest s' b (with_left x n) l (set ps b p) ds sp f
      after_plain_lem s' (Stopped c) p x ds sp f = stopped s' p x ds sp c f
      after_plain_lem s' Left p x ds sp f =
          obeyed_there s' p x ds sp (sym (paid_is j rest g.good b there s' n l ps ds x p sp) ∙ f.1) f.0 f.2

      enough_cells : most_cells ≤ length cs
      enough_cells = rw st.counts.cells (rw (length-append s.machine.cells rest, st.counts.all_cells) g.room)

      plain_runs : PlainRan j rest g.good b there s n l ps (plain n.left tb (first tb b) (len tb b) (get_or ps b 0) cs)
      plain_runs = ran_plain j rest g.good b there n l ps n.left (get_or ps b 0) cs s (rw (set-get_or ps b 0) st)

      -- the plain instructions alone
      pub plain_turn : PlainRan j rest g.good b there s n l ps (run_plain n.left tb (get_or firsts b 0) (get_or firsts (b + 1) 0 - get_or firsts b 0) (get_or ps b 0) cs)
      unfolding run_plain
      plain_turn = rw (len_is, g.lines b (omega arith), able_is cs enough_cells) plain_runs

      pub body_turn : Reaches j rest s (body_run tb j.inputs firsts (threads tb) b (code (goes_to (Runs b) n) l ps cs))
      unfolding body_run run_plain
      body_turn =
          let o : Out = plain n.left tb (first tb b) (len tb b) (get_or ps b 0) cs in
          let r : PlainRan j rest g.good b there s n l ps o = plain_runs in
          rw (len_is, g.lines b (omega arith), able_is cs enough_cells)
          (record { more = r.more; stands = subst (λ (x : State). StandsAt j rest x (after_plain tb j.inputs (threads tb) (first tb b) b o (goes_to (Runs b) n) l ps)) (sym (steps_last j r.more s)) (after_plain_lem (steps j r.more s) o.ran.end o.ran.place o.ran.left o.cells r.stands r.ending) })

  -- One turn ------------------------------------------------------------------------------------------------------

  -- some steps on, or none
  record Settled (s : State) (c : Code) : Type 0 where
    more : ℕ
    stands : StandsAt j rest (steps j more s) c

  as_settled : (s : State) (c : Code) → Reaches j rest s c → Settled s c
  as_settled s c r = record { more = suc r.more; stands = r.stands }

  -- after the delta phase: evaluation and its first choice, or time
  turn_taken : (s : State) (c : Code) → StandsAt j rest s c → place_of (threads j.table) c.now.control ≡ turn_place → Reaches j rest s (code (evaluated j.choices TimePhase c.now) c.lists c.places c.cells)
  unfolding evaluated
  turn_taken s c st here = on (any_runs c.now.marks) refl
    where
      l : Lists
      l = c.lists

      -- a choice counts the same, wherever the machine stands
      same_choice : (f : Found) → chosen_by f (goes_to Evaluation c.now) ≡ chosen_by f c.now
      same_choice none = refl
      same_choice (found i) = refl

      on : (z : Bool) → any_runs c.now.marks ≡ z → Reaches j rest s (code (if z then chosen_by (nth j.choices c.now.chosen) c.now else goes_to TimePhase c.now) l c.places c.cells)
      on true a =
          let st' : Stands j rest (step j s) (goes_to Evaluation c.now) l c.places c.cells = turns j rest s c.now l c.places c.cells st here true a in
          reaches_two j rest s _ (rw (a, same_choice (nth j.choices c.now.chosen)) at (evaluates j rest (step j s) (goes_to Evaluation c.now) l c.places c.cells st' refl))
      on false a = reaches_one j rest s _ (turns j rest s c.now l c.places c.cells st here false a)

  -- evaluation, and with nothing left of it and no update requested the delta phase
  evaluation_taken : (s : State) (c : Code) → StandsAt j rest s c → place_of (threads j.table) c.now.control ≡ evaluation → Reaches j rest s (code (evaluated j.choices (when_idle (first_asked c.now.marks)) c.now) c.lists c.places c.cells)
  unfolding evaluated
  evaluation_taken s c st here = on (any_runs c.now.marks) refl
    where
      l : Lists
      l = c.lists

      idle : Stands j rest (step j s) (goes_to UpdatePhase c.now) l c.places c.cells → (f : Found) → first_asked c.now.marks ≡ f → Reaches j rest s (code (goes_to (when_idle f) c.now) l c.places c.cells)
      idle st' (found u) e = reaches_one j rest s _ st'
      idle st' none e = reaches_two j rest s _ (rw e at (enters_update j rest (step j s) (goes_to UpdatePhase c.now) l c.places c.cells st' refl))

      on : (z : Bool) → any_runs c.now.marks ≡ z → Reaches j rest s (code (if z then chosen_by (nth j.choices c.now.chosen) c.now else goes_to (when_idle (first_asked c.now.marks)) c.now) l c.places c.cells)
      on true a = reaches_one j rest s _ (rw a at (evaluates j rest s c.now l c.places c.cells st here))
      on false a = idle (rw a at (evaluates j rest s c.now l c.places c.cells st here)) (first_asked c.now.marks) refl

  settles : (s : State) (c : Code) → StandsAt j rest s c → Settled s (settled_in j.choices c)
  unfolding settled steps
  settles s c st = by c.now.control refl
    where
      stood : (x : Control) → c.now.control ≡ x → place_of (threads j.table) c.now.control ≡ place_of (threads j.table) x
      stood x e = ap (place_of (threads j.table)) e

      here : Settled s c
      here = record { more = 0; stands = st }

      by : (x : Control) → c.now.control ≡ x → Settled s (code (settled_from j.choices c.now x) c.lists c.places c.cells)
      by Turn e = as_settled s _ (turn_taken s c st (stood Turn e))
      by Evaluation e = as_settled s _ (evaluation_taken s c st (stood Evaluation e))
      by (Runs b) e = here
      by UpdatePhase e = here
      by DeltaPhase e = here
      by TimePhase e = here
      by (Over k b p) e = here

  -- after it the machine stands neither at evaluation nor at the turn to it
  abbrev unsettled : Control → Bool
  unsettled Turn = true
  unsettled Evaluation = true
  unsettled (Runs b) = false
  unsettled UpdatePhase = false
  unsettled DeltaPhase = false
  unsettled TimePhase = false
  unsettled (Over k b p) = false

  settled_by : (idle : Control) (n : Now) → unsettled idle ≡ false → unsettled (evaluated j.choices idle n).control ≡ false
  unfolding evaluated
  settled_by idle n h = on (any_runs n.marks) (nth j.choices n.chosen)
    where
      named : (z : Bool) (i : ℕ) → unsettled (if z then dispatch i n else goes_to (Over (reason_number NotRunnable) 0xff 0) n).control ≡ false
      named true i = refl
      named false i = refl

      on : (z : Bool) (f : Found) → unsettled (if z then chosen_by f n else goes_to idle n).control ≡ false
      on true none = refl
      on true (found i) = named (may_run n.marks i) i
      on false f = h

  is_settled : (n : Now) → unsettled (settled j.choices n).control ≡ false
  unfolding settled
  is_settled n = by n.control refl
    where
      idle : (f : Found) → unsettled (when_idle f) ≡ false
      idle none = refl
      idle (found u) = refl

      by : (x : Control) → n.control ≡ x → unsettled (settled_from j.choices n x).control ≡ false
      by Turn e = settled_by TimePhase n refl
      by Evaluation e = settled_by (when_idle (first_asked n.marks)) n (idle (first_asked n.marks))
      by (Runs b) e = ap unsettled e
      by UpdatePhase e = ap unsettled e
      by DeltaPhase e = ap unsettled e
      by TimePhase e = ap unsettled e
      by (Over k b p) e = ap unsettled e

  -- and then what follows
  from_there : (s : State) (c : Code) → StandsAt j rest s c → unsettled c.now.control ≡ false → Reaches j rest s (turn_from j.table j.inputs firsts (threads j.table) c c.now.control)
  from_there s c st h = by c.now.control refl
    where
      stood : (x : Control) → c.now.control ≡ x → place_of (threads j.table) c.now.control ≡ place_of (threads j.table) x
      stood x e = ap (place_of (threads j.table)) e

      lost : {A : Type 0} (x : Control) → unsettled x ≡ true → c.now.control ≡ x → A
      lost x q e =
          let z : true ≡ false = sym q ∙ ap unsettled (sym e) ∙ h in
          let y : ◌≡◌ {A = ℕ} 0 1 = cc in
          absurd (omega arith)

      -- the code's state with its control written out
      same : (x : Control) → c.now.control ≡ x → c ≡ code (goes_to x c.now) c.lists c.places c.cells
      same x e = ap (λ (y : Control). code (goes_to y c.now) c.lists c.places c.cells) e

      runs_on_lem : (b : ℕ) → StandsAt j rest s (code (goes_to (Runs b) c.now) c.lists c.places c.cells) → Reaches j rest s (body_run j.table j.inputs firsts (threads j.table) b (code (goes_to (Runs b) c.now) c.lists c.places c.cells))
      runs_on_lem b sp =
          body_turn b (body_there j rest s b c.now c.lists c.places c.cells sp) s c.now c.lists c.places c.cells sp

      by : (x : Control) → c.now.control ≡ x → Reaches j rest s (turn_from j.table j.inputs firsts (threads j.table) c x)
      by (Runs b) e =
          subst (λ (d : Code). Reaches j rest s (body_run j.table j.inputs firsts (threads j.table) b d)) (sym (same (Runs b) e)) (runs_on_lem b (subst (StandsAt j rest s) (same (Runs b) e) st))
      by UpdatePhase e = reaches_one j rest s _ (enters_update j rest s c.now c.lists c.places c.cells st (stood UpdatePhase e))
      by DeltaPhase e = reaches_one j rest s _ (serves_delta j rest s c.now c.lists c.places c.cells st (stood DeltaPhase e))
      by TimePhase e = reaches_one j rest s _ (times j rest s c.now c.lists c.places c.cells st (stood TimePhase e))
      by Turn e = lost Turn refl e
      by Evaluation e = lost Evaluation refl e
      by (Over k b p) e =
          reaches_one j rest s c
          (subst (λ (x : State). StandsAt j rest x c) (sym (stays j s (record { number = k; body = b; place = p; is = sym st.counts.control ∙ stood (Over k b p) e }))) st)

  pub turn_follows : (s : State) (c : Code) → StandsAt j rest s c → Reaches j rest s (turn j.table j.choices j.inputs firsts (threads j.table) c)
  unfolding turn
  turn_follows s c st =
      let d : Code = settled_in j.choices c in
      let a : Settled s d = settles s c st in
      let r : Reaches j rest (steps j a.more s) (turn_from j.table j.inputs firsts (threads j.table) d d.now.control) = from_there (steps j a.more s) d a.stands (is_settled c.now) in
      let e : a.more + suc r.more ≡ suc (a.more + r.more) = omega arith in
      record {
        more = a.more + r.more;
        stands = subst (λ (x : State). StandsAt j rest x (turn_from j.table j.inputs firsts (threads j.table) d d.now.control)) (sym (steps_add j (suc r.more) a.more s) ∙ ap (λ (x : ℕ). steps j x s) e) r.stands;
      }
