-- A run of plain instructions in the code is as many steps of the machine. Assumes nothing.
use Prim.Native.Nat.{ℕ, zero, suc, ◌+◌, ◌-◌, ◌≤◌, ◌<◌}
use mathlib.Core.Path.{◌≡◌, refl, sym, ap, subst, ◌∙◌}
use mathlib.Core.Bool.{Bool, true, false, ◌&&◌, ◌||◌}
use mathlib.Core.Logic.{◌⊎◌, inl, inr, ⊎_elim}
use Rattle.laws.specs.Choice.{and_left, and_right}
use mathlib.Core.List.{List, [], ◌∷◌, ◌++◌}
use native.Mathlib.Omega.{arith}
use native.Mathlib.Numerals.{add-one}
use borrow.Author.Tests.{leb-true, ltb-true, ltb-false, lt-ltb, le-ltb}
use lib.Dec.{eqb, ltb, leb}
use lib.ListN.{length, get_or, set, length-set}
use lib.Seq.{get_or-set_same, set-set, set-append_left}
use Rattle.std.specs.Prelude.{if◌then◌else◌}
use Rattle.word.specs.Word.{Result, value, stop}
use Rattle.frame.specs.declared.Frame.{Frame}
use Rattle.frame.specs.Ops.{Meaning, takes_imm, takes_input, one, two, may, load, store, goto, goto_if, holds, wait_event, wait_time, notify, notify_after, request, suspend, resume, start_limit, start, unknown, meaning_of}
use Rattle.frame.specs.Laws.{sound}
use Rattle.frame.specs.Agree.{InCells, in_cells}
use Rattle.image.specs.Layout.{frame, counts, bodies, len, first, kind_of}
use Rattle.image.specs.Judge.{judged}
use Rattle.image.proofs.Accepted.{fine_instruction}
use Rattle.kernel.specs.Design.{Table, Body, main, thread, update, threads, number, instruction}
use Rattle.kernel.specs.Kernel.{nothing, ran, after, kernel}
use Rattle.kernel.specs.Effect.{View, Effect, stops, sets, goes, does, stop_if, sets_to, goes_if, effect}
use Rattle.kernel.specs.Machine.{Job, running, Machine, State, out}
use Rattle.kernel.specs.Step.{due, paid, runs_on, perform, view, effect_of, advance, step, steps}
use Rattle.kernel.specs.Demand.{is_stop}
use Rattle.kernel.proofs.Stops.{RightResult, Sound, found_sound}
use Rattle.kernel.proofs.Fits.{Fits, fits_step}
use Rattle.kernel.proofs.Laws.{step_obeys, step_unpaid}
use Rattle.ending.specs.declared.Ending.{Ending as Reason}
use Rattle.ending.specs.declared.Ending.TheVariants.{NoBudgetLeft}
use Rattle.ending.specs.Ending.{number_of as reason_number, ending_of, numbered}
use Rattle.effect.specs.declared.Eff.{Eff}
use Rattle.effect.specs.declared.Eff.TheVariants.{Put, Go, Stop, Leave}
use Rattle.plain.specs.declared.End.{End}
use Rattle.plain.specs.declared.End.TheVariants.{Ended, Left, Stopped}
use Rattle.plain.specs.Plain.{is_plain, seen, as_eff, plain_effect, Out as PlainOut, out as plain_out, when, after as after_eff, plain}
use Rattle.turns.specs.declared.Control.TheVariants.{Runs}
use Rattle.turns.specs.declared.Now.{Now}
use Rattle.shows.specs.Shows.{Lists}
use Rattle.turns.specs.Stands.{body_of, Stands}
use Rattle.turns.specs.Code.{goes_to, with_left}
use Rattle.turns.proofs.Moves.{edited}
use Rattle.turns.proofs.Cells.{seeing, same_effect, Within, within_cells}

-- the number of the body of number b is b
pub number_of : (t : Table) (b : ℕ) → number t (body_of (threads t) b) ≡ b
unfolding body_of
number_of t zero = refl
number_of t (suc k) = by (ltb k (threads t)) refl
  where
    by : (z : Bool) → ltb k (threads t) ≡ z → number t (if z then thread k else update (k - threads t)) ≡ suc k
    by true e = omega arith
    by false e = omega (arith, ltb-false k (threads t) e)

false_true : {A : Type 0} → false ≡ true → A
false_true e =
    let z : ◌≡◌ {A = ℕ} 0 1 = cc in
    absurd (omega arith)

-- a plain instruction sees its place and the cells alone
pub plain_sees : (v : View) (i : Frame) (m : Meaning) → is_plain m ≡ true → effect v i m ≡ effect (seen v.place v.cells) i m
unfolding effect
plain_sees v i takes_imm e = refl
plain_sees v i takes_input e = false_true e
plain_sees v i (one f) e = refl
plain_sees v i (two f) e = refl
plain_sees v i (may f) e = refl
plain_sees v i load e = refl
plain_sees v i store e = refl
plain_sees v i goto e = refl
plain_sees v i goto_if e = refl
plain_sees v i (holds n) e = refl
plain_sees v i wait_event e = false_true e
plain_sees v i wait_time e = false_true e
plain_sees v i notify e = false_true e
plain_sees v i notify_after e = false_true e
plain_sees v i request e = false_true e
plain_sees v i suspend e = false_true e
plain_sees v i resume e = false_true e
plain_sees v i start_limit e = false_true e
plain_sees v i start e = false_true e
plain_sees v i unknown e = false_true e

-- what the code's answer tells of the effect
pub data Tells (p : ℕ) : Eff → Effect → Type 0 where
  puts : (d x : ℕ) → Tells p (Put d x) (sets d x)
  jumps : (q : ℕ) → Tells p (Go q) (goes q)
  passes : Tells p (Go (p + 1)) (does nothing)
  fails : (k : Reason) → Tells p (Stop k) (stops (reason_number k))

-- each number that a plain instruction stops a run with has its reason
known : (n : ℕ) → is_stop n ≡ true → reason_number (ending_of n) ≡ n
known n e = numbered n (first n e) (last n e)
  where
    low : (a b : Bool) → a || b ≡ true → (a ≡ true) ⊎ (b ≡ true)
    low true b q = inl refl
    low false b q = inr q

    first : (n : ℕ) → is_stop n ≡ true → 10 ≤ n
    first n e = by (low (leb 12 n && leb n 19) (leb 22 n && leb n 23) e)
      where
        by : (leb 12 n && leb n 19 ≡ true) ⊎ (leb 22 n && leb n 23 ≡ true) → 10 ≤ n
        by (inl q) = omega (arith, leb-true 12 n (and_left (leb 12 n) (leb n 19) q))
        by (inr q) = omega (arith, leb-true 22 n (and_left (leb 22 n) (leb n 23) q))

    last : (n : ℕ) → is_stop n ≡ true → n < 24
    last n e = by (low (leb 12 n && leb n 19) (leb 22 n && leb n 23) e)
      where
        by : (leb 12 n && leb n 19 ≡ true) ⊎ (leb 22 n && leb n 23 ≡ true) → n < 24
        by (inl q) = omega (arith, leb-true n 19 (and_right (leb 12 n) (leb n 19) q))
        by (inr q) = omega (arith, leb-true n 23 (and_right (leb 22 n) (leb n 23) q))

fails_with : (p n : ℕ) → is_stop n ≡ true → Tells p (Stop (ending_of n)) (stops n)
fails_with p n e = subst (λ (k : ℕ). Tells p (Stop (ending_of n)) (stops k)) (known n e) (fails (ending_of n))

tells_if : (p n : ℕ) → is_stop n ≡ true → (t : Bool) (x : Effect) → Tells p (as_eff p x) x → Tells p (as_eff p (stop_if t n x)) (stop_if t n x)
tells_if p n e true x h = fails_with p n e
tells_if p n e false x h = h

tells_result : (p d : ℕ) (r : Result) → RightResult r → Tells p (as_eff p (sets_to d r)) (sets_to d r)
tells_result p d (value x) e = puts d x
tells_result p d (stop n) e = fails_with p n e

tells_goes : (p x a b : ℕ) → Tells p (as_eff p (goes_if x a b)) (goes_if x a b)
tells_goes p zero a b = jumps b
tells_goes p (suc x) a b = jumps a

pub tells : (v : View) (i : Frame) (m : Meaning) → is_plain m ≡ true → Sound m → Tells v.place (as_eff v.place (effect v i m)) (effect v i m)
unfolding effect
tells v i takes_imm e g = puts i.d i.imm
tells v i takes_input e g = false_true e
tells v i (one f) e g = puts i.d (f (get_or v.cells i.a 0))
tells v i (two f) e g = puts i.d (f (get_or v.cells i.a 0) (get_or v.cells i.b 0))
tells v i (may f) e g = tells_result v.place i.d (f (get_or v.cells i.a 0) (get_or v.cells i.b 0)) (g _ _)
tells v i load e g =
    tells_if v.place 16 refl (leb i.b (get_or v.cells i.a 0)) (sets i.d (get_or v.cells (i.imm + get_or v.cells i.a 0) 0)) (puts _ _)
tells v i store e g =
    tells_if v.place 16 refl (leb i.b (get_or v.cells i.a 0)) (sets (i.imm + get_or v.cells i.a 0) (get_or v.cells i.d 0)) (puts _ _)
tells v i goto e g = jumps i.imm
tells v i goto_if e g = tells_goes v.place (get_or v.cells i.a 0) i.imm (suc v.place)
tells v i (holds n) e g = tells_if v.place n g (eqb (get_or v.cells i.a 0) 0) (does nothing) passes
tells v i wait_event e g = false_true e
tells v i wait_time e g = false_true e
tells v i notify e g = false_true e
tells v i notify_after e g = false_true e
tells v i request e g = false_true e
tells v i suspend e g = false_true e
tells v i resume e g = false_true e
tells v i start_limit e g = false_true e
tells v i start e g = false_true e
tells v i unknown e g = false_true e

-- an accepted table's body b, and a state of the machine that runs it
module _ (j : Job) (rest : List ℕ) (good : (judged j.table).number ≡ 0) (b : ℕ) (there : b < bodies j.table) where
  abbrev t : Table
  t = j.table

  abbrev body : Body
  body = body_of (threads t) b

  pub cells_of : (p : ℕ) → p < len t b → InCells (counts t) (frame t (first t b + p)) (meaning_of (frame t (first t b + p)).op)
  cells_of p h = in_cells (counts t) (kind_of (counts t) b) (len t b) (frame t (first t b + p)) (sound _ _ _ _ (fine_instruction t good b p there h))

  module _ (s : State) (n : Now) (l : Lists) (ps cs : List ℕ) (x p : ℕ) (st : Stands j rest s (with_left x (goes_to (Runs b) n)) l (set ps b p) cs) where
    abbrev m : Machine
    m = s.machine

    stood : m.control ≡ running body
    stood = sym st.counts.control

    all_places : b < length ps
    all_places = omega (arith, st.counts.all_places, length-set ps b p)

    pub place_is : m.places (number t body) ≡ p
    place_is = ap m.places (number_of t b) ∙ sym (st.counts.places b there) ∙ get_or-set_same ps b p 0 all_places

    pub due_is : due j s body ≡ ltb p (len t b)
    due_is = rw (place_is, number_of t b)

    pub paid_is : paid j s ≡ ltb 0 x
    paid_is = by x st.counts.instructions
      where
        by : (x : ℕ) → m.instructions + x ≡ j.budget → ltb m.instructions j.budget ≡ ltb 0 x
        by zero e = le-ltb m.instructions j.budget (omega arith) ∙ sym (le-ltb 0 0 (omega arith))
        by (suc x) e = lt-ltb m.instructions j.budget (omega arith) ∙ sym (lt-ltb 0 (suc x) (omega arith))

    pub instruction_is : instruction t (number t body) (m.places (number t body)) ≡ frame t (first t b + p)
    instruction_is = rw (place_is, number_of t b)

    -- the effect of the instruction, over the lent cells
    pub effect_is : p < len t b → effect_of j s body ≡ effect (seeing cs (view j s body)) (frame t (first t b + p)) (meaning_of (frame t (first t b + p)).op)
    effect_is h =
        ap (λ (i : Frame). effect (view j s body) i (meaning_of i.op)) instruction_is
        ∙ rw st.counts.cells (sym (same_effect (counts t) (frame t (first t b + p)) (view j s body) m.cells rest st.counts.all_cells _ (cells_of p h)))

    pub effect_within : p < len t b → Within (counts t).cells (effect_of j s body)
    effect_within h =
        subst (λ (i : Frame). Within (counts t).cells (effect (view j s body) i (meaning_of i.op))) (sym instruction_is)
        (within_cells (counts t) (frame t (first t b + p)) (view j s body) (meaning_of (frame t (first t b + p)).op) (cells_of p h))

    -- an instruction of the body is completed with nothing asked of the kernel, and the body goes on at place q with these cells
    pub goes_on : (y q : ℕ) (ds : List ℕ) → x ≡ suc y → length ds ≡ (counts t).cells → step j s ≡ advance s (out (ran body nothing ∷ []) (record { control = running body; cells = ds; places = λ i. if eqb i (number t body) then q else m.places i; instructions = suc m.instructions; choices = m.choices; inputs = m.inputs }))
        → Stands j rest (step j s) (with_left y (goes_to (Runs b) n)) l (set ps b q) (ds ++ rest)
    unfolding kernel after
    goes_on y q ds e a d =
        let o = st.counts in
        let f : Fits t (kernel (step j s).history) (step j s).machine.control = fits_step j s st.fits in
        let g = subst (λ (z : State). Fits t (kernel z.history) z.machine.control) d f in
        let v : m.instructions + suc y ≡ j.budget = rw e at o.instructions in
        subst (λ (z : State). Stands j rest z (with_left y (goes_to (Runs b) n)) l (set ps b q) (ds ++ rest)) (sym d)
        (record {
          shows = st.shows;
          counts = record { control = refl; time = o.time; limit = o.limit; stage = o.stage; instructions = omega arith; choices = o.choices; inputs = o.inputs; places = after_place q; all_places = length-set ps b q ∙ sym (length-set ps b p) ∙ o.all_places; cells = refl; all_cells = a };
          fits = g;
        })
      where
        after_place : (q i : ℕ) → i < bodies t → get_or (set ps b q) i 0 ≡ (if eqb i (number t body) then q else m.places i)
        after_place q i h =
            rw (number_of t b, ← set-set ps b p q) (edited (λ z. z) m.places (λ z. q) (set ps b p) (bodies t) b q st.counts.all_places st.counts.places (λ r. refl) i h)

    -- a thread that runs is runnable, so it goes on where nothing is asked of the kernel
    runs_same : (c : Body) → Fits t (kernel s.history) (running c) → runs_on j s c (kernel (ran c nothing ∷ s.history)) ≡ running c
    unfolding kernel after
    runs_same main f = refl
    runs_same (thread i) f = rw f
    runs_same (update u) f = refl

    fits_body : Fits t (kernel s.history) (running body)
    fits_body = subst (Fits t (kernel s.history)) stood st.fits

    pub obeys : ltb p (len t b) ≡ true → (y : ℕ) → x ≡ suc y → (e : Effect) → effect_of j s body ≡ e → step j s ≡ advance s (perform j s body e)
    obeys h y q e f =
        step_obeys j s body stood (due_is ∙ h) (paid_is ∙ rw q (lt-ltb 0 (suc y) (omega arith))) ∙ ap (λ (z : Effect). advance s (perform j s body z)) f

    -- after a plain instruction that does not stop the run
    module _ (h : ltb p (len t b) ≡ true) (y : ℕ) (e : x ≡ suc y) where
      pub sets_on : (d v : ℕ) → effect_of j s body ≡ sets d v → Stands j rest (step j s) (with_left y (goes_to (Runs b) n)) l (set ps b (p + 1)) (set cs d v)
      unfolding perform
      sets_on d v f =
          let o = st.counts in
          let w : d < (counts t).cells = subst (Within (counts t).cells) f (effect_within (ltb-true p (len t b) h)) in
          let c : set cs d v ≡ set m.cells d v ++ rest = rw o.cells (set-append_left m.cells rest d v (omega (arith, o.all_cells))) in
          rw c (goes_on y (p + 1) (set m.cells d v) e (length-set m.cells d v ∙ o.all_cells) (obeys h y e (sets d v) f ∙ rw (place_is, ← add-one p)))

      pub goes_to_place : (q : ℕ) → effect_of j s body ≡ goes q → Stands j rest (step j s) (with_left y (goes_to (Runs b) n)) l (set ps b q) cs
      unfolding perform
      goes_to_place q f = rw st.counts.cells (goes_on y q m.cells e st.counts.all_cells (obeys h y e (goes q) f))

      pub passes_on : effect_of j s body ≡ does nothing → Stands j rest (step j s) (with_left y (goes_to (Runs b) n)) l (set ps b (p + 1)) cs
      unfolding perform
      passes_on f =
          rw st.counts.cells
          (goes_on y (p + 1) m.cells e st.counts.all_cells (obeys h y e (does nothing) f ∙ rw (runs_same body fits_body, place_is, ← add-one p)))

  -- no op of the body stops the run with another number
  sound_there : (p : ℕ) → p < len t b → Sound (meaning_of (frame t (first t b + p)).op)
  unfolding bodies
  sound_there p h = ⊎_elim (λ g. g) (λ e. absurd (e.1 good)) (found_sound t b p (omega (arith, there)) h)

  -- how a run of plain instructions ended, said of the machine's state then
  abbrev pub Ending : State → End → ℕ → Type 0
  Ending s Ended p = due j s body ≡ false
  Ending s (Stopped k) p = step j s ≡ advance s (perform j s body (stops (reason_number k)))
  Ending s Left p = (ltb p (len t b) ≡ true) × (paid j s ≡ true) × (is_plain (meaning_of (frame t (first t b + p)).op) ≡ false)

  pub record PlainRan (s : State) (n : Now) (l : Lists) (ps : List ℕ) (o : PlainOut) : Type 0 where
    pub more : ℕ
    pub stands : Stands j rest (steps j more s) (with_left o.ran.left (goes_to (Runs b) n)) l (set ps b o.ran.place) o.cells
    pub ending : Ending (steps j more s) o.ran.end o.ran.place

  module _ (n : Now) (l : Lists) (ps : List ℕ) where
    -- one step more before it
    later : (s : State) (o : PlainOut) → PlainRan (step j s) n l ps o → PlainRan s n l ps o
    unfolding steps
    later s o r = record { more = suc r.more; stands = r.stands; ending = r.ending }

    pub ran_plain : (x p : ℕ) (cs : List ℕ) (s : State) → Stands j rest s (with_left x (goes_to (Runs b) n)) l (set ps b p) cs → PlainRan s n l ps (plain x t (first t b) (len t b) p cs)
    unfolding plain plain_effect steps
    ran_plain zero p cs s st = go (ltb p (len t b)) refl
      where
        go : (z : Bool) → ltb p (len t b) ≡ z → PlainRan s n l ps (when z (λ _. plain_out (Stopped NoBudgetLeft) p 0 cs) (plain_out Ended p 0 cs))
        go true h = record { more = 0; stands = st; ending = step_unpaid j s body (sym st.counts.control) (due_is s n l ps cs zero p st ∙ h) (paid_is s n l ps cs zero p st ∙ le-ltb 0 0 (omega arith)) }
        go false h = record { more = 0; stands = st; ending = due_is s n l ps cs zero p st ∙ h }
    ran_plain (suc y) p cs s st = go (ltb p (len t b)) refl (λ q ds s' st'. ran_plain y q ds s' st')
      where
        Again : Type 0
        Again = (q : ℕ) (ds : List ℕ) (s' : State) → Stands j rest s' (with_left y (goes_to (Runs b) n)) l (set ps b q) ds → PlainRan s' n l ps (plain y t (first t b) (len t b) q ds)

        i : Frame
        i = frame t (first t b + p)

        -- what the instruction comes to, over the lent cells
        is : is_plain (meaning_of i.op) ≡ true → ltb p (len t b) ≡ true → effect_of j s body ≡ effect (seen p cs) i (meaning_of i.op)
        is z h =
            effect_is s n l ps cs (suc y) p st (ltb-true p (len t b) h)
            ∙ plain_sees (seeing cs (view j s body)) i (meaning_of i.op) z
            ∙ rw (place_is s n l ps cs (suc y) p st)

        by_told : Again → ltb p (len t b) ≡ true → (f : Eff) (e : Effect) → Tells p f e → effect_of j s body ≡ e → PlainRan s n l ps (after_eff f (plain y t (first t b) (len t b)) p (suc y) cs)
        by_told again h f e (puts d v) q = later s _ (again (p + 1) (set cs d v) (step j s) (sets_on s n l ps cs (suc y) p st h y refl d v q))
        by_told again h f e (jumps r) q = later s _ (again r cs (step j s) (goes_to_place s n l ps cs (suc y) p st h y refl r q))
        by_told again h f e passes q = later s _ (again (p + 1) cs (step j s) (passes_on s n l ps cs (suc y) p st h y refl q))
        by_told again h f e (fails k) q = record { more = 0; stands = st; ending = obeys s n l ps cs (suc y) p st h y refl (stops (reason_number k)) q }

        by_plain : Again → ltb p (len t b) ≡ true → (z : Bool) → is_plain (meaning_of i.op) ≡ z → PlainRan s n l ps (after_eff (if z then as_eff p (effect (seen p cs) i (meaning_of i.op)) else Leave) (plain y t (first t b) (len t b)) p (suc y) cs)
        by_plain again h true z = by_told again h _ _ (tells (seen p cs) i (meaning_of i.op) z (sound_there p (ltb-true p (len t b) h))) (is z h)
        by_plain again h false z = record { more = 0; stands = st; ending = (h, paid_is s n l ps cs (suc y) p st ∙ lt-ltb 0 (suc y) (omega arith), z) }

        go : (z : Bool) → ltb p (len t b) ≡ z → Again → PlainRan s n l ps (when z (λ _. after_eff (if is_plain (meaning_of i.op) then as_eff p (effect (seen p cs) i (meaning_of i.op)) else Leave) (plain y t (first t b) (len t b)) p (suc y) cs) (plain_out Ended p (suc y) cs))
        go true h again = by_plain again h (is_plain (meaning_of i.op)) refl
        go false h again = record { more = 0; stands = st; ending = due_is s n l ps cs (suc y) p st ∙ h }
