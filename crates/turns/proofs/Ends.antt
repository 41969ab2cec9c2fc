-- From its first state to its end the code does what the definition's run does, and tells it. Assumes nothing.
use Prim.Native.Nat.{ℕ, zero, suc, ◌+◌, ◌-◌, ◌%◌, ◌<◌, ◌≤◌}
use mathlib.Core.Path.{◌≡◌, refl, sym, ap, subst, ◌∙◌}
use mathlib.Core.Bool.{Bool, true, false}
use mathlib.Core.List.{List, ◌++◌}
use native.Mathlib.Omega.{arith}
use lib.ListN.{length, get_or, drop, replicate, length-replicate, get_or-replicate}
use Rattle.laws.specs.Lists.{over as stored_over}
use Rattle.image.specs.Layout.{counts, bodies}
use Rattle.image.specs.Judge.{judged}
use Rattle.image.proofs.Walk.{due_above}
use Rattle.image.proofs.Accepted.{accepted_has, Counted, counted}
use Rattle.kernel.specs.Design.{Table, threads, events, updates, cells}
use Rattle.kernel.specs.Kernel.{kernel}
use Rattle.kernel.specs.Machine.{Job, Control as Place, running, update_phase, delta_phase, turn as turn_place, evaluation, time_phase, over, State, init}
use Rattle.kernel.specs.Step.{steps}
use Rattle.kernel.specs.Run.{not_ended as not_ended_of, ends, outcome_from, outcome_of, bound, runs}
use Rattle.kernel.specs.Enough.{Over as IsOver}
use Rattle.kernel.proofs.Small.{Small, Few, few}
use Rattle.kernel.proofs.Enough.{steps_add, over_after, final}
use Rattle.marks.specs.Marks.{not_ended}
use Rattle.shows.specs.Shows.{kept, Few as Room}
use Rattle.shows.proofs.Asks.{not_ended_is}
use Rattle.shows.proofs.Serves.{first_shows}
use Rattle.turns.specs.declared.Control.{Control}
use Rattle.turns.specs.declared.Control.TheVariants.{Runs, UpdatePhase, DeltaPhase, Turn, Evaluation, TimePhase, Over}
use Rattle.turns.specs.Stands.{place_of, body_of}
use Rattle.turns.specs.Code.{Code, code, turn, turns, answer_as, answer_from, answered, told, first_now, first_ran, first_lists}
use Rattle.turns.proofs.Turns.{StandsAt, Reaches, Given, plain_turn, turn_follows}
use Rattle.turns.proofs.Bodies.{PlainRan}

-- Turns ------------------------------------------------------------------------------------------------------------

-- so many steps on, or more
pub record Gone (j : Job) (rest : List ℕ) (k : ℕ) (s : State) (c : Code) : Type 0 where
  pub count : ℕ
  pub many : k ≤ count
  pub stands : StandsAt j rest (steps j count s) c

turns_follow : (j : Job) (rest firsts : List ℕ) (g : Given j rest firsts) (k : ℕ) (s : State) (c : Code) → StandsAt j rest s c → Gone j rest k s (turns j.table j.choices j.inputs firsts (threads j.table) k c)
unfolding turns steps
turns_follow j rest firsts g zero s c st = record { count = 0; many = omega arith; stands = st }
turns_follow j rest firsts g (suc k) s c st =
    let r : Reaches j rest s (turn j.table j.choices j.inputs firsts (threads j.table) c) = turn_follows j rest firsts g s c st in
    let q : Gone j rest k (steps j (suc r.more) s) (turns j.table j.choices j.inputs firsts (threads j.table) k (turn j.table j.choices j.inputs firsts (threads j.table) c)) = turns_follow j rest firsts g k (steps j (suc r.more) s) (turn j.table j.choices j.inputs firsts (threads j.table) c) r.stands in
    record {
      count = suc r.more + q.count;
      many = omega (arith, q.many);
      stands = subst (λ (x : State). StandsAt j rest x (turns j.table j.choices j.inputs firsts (threads j.table) k (turn j.table j.choices j.inputs firsts (threads j.table) c))) (sym (steps_add j q.count (suc r.more) s)) q.stands;
    }

-- What is told -----------------------------------------------------------------------------------------------------

abbrev is_done : Place → Bool
is_done (over n b p) = true
is_done (running b) = false
is_done update_phase = false
is_done delta_phase = false
is_done turn_place = false
is_done evaluation = false
is_done time_phase = false

module _ (j : Job) (lent rest : List ℕ) (r : rest ≡ drop (cells j.table) lent) (s : State) (c : Code) (st : StandsAt j rest s c) (z : Few j s.machine) (small : j.budget < 4294967296) (short : length j.choices ≤ 4096) where
  told_as : (k b p : ℕ) → (b < 4294967296) × (p < 4294967296) → ends j lent s k b p ≡ record { answer = answer_as j.budget c.now k b p; cells = c.cells }
  told_as k b p h =
      let x : b % 4294967296 ≡ b = omega (arith, h.0) in
      let y : p % 4294967296 ≡ p = omega (arith, h.1) in
      let v : s.machine.choices % 4294967296 ≡ s.machine.choices = omega (arith, z.choices) in
      let w : s.machine.inputs % 4294967296 ≡ s.machine.inputs = omega (arith, z.inputs, st.counts.instructions) in
      let t : c.now.time ≡ (kernel s.history).now = st.counts.time in
      let i : j.budget - c.now.left ≡ s.machine.instructions = omega (arith, st.counts.instructions) in
      let e : not_ended c.now.marks ≡ not_ended_of j.table (kernel s.history) = not_ended_is j.table (kernel s.history) (kept c.now.marks c.lists) st.shows in
      let d : c.cells ≡ stored_over s.machine.cells lent = st.counts.cells ∙ rw (r, st.counts.all_cells) in
      rw (t, i, e, d, st.counts.choices, st.counts.inputs, x, y, v, w)

  tells_from : (x : Control) → place_of (threads j.table) x ≡ s.machine.control → IsOver s.machine.control → outcome_from j lent s s.machine.control ≡ record { answer = answer_from j.budget c.now x; cells = c.cells }
  tells_from x e o = by x e
    where
      lost : {A : Type 0} (x : Place) → is_done x ≡ false → x ≡ s.machine.control → A
      lost x q e =
          let z : true ≡ false = sym (ap is_done (e ∙ o.is)) ∙ q in
          let y : ◌≡◌ {A = ℕ} 0 1 = cc in
          absurd (omega arith)

      by : (x : Control) → place_of (threads j.table) x ≡ s.machine.control → outcome_from j lent s s.machine.control ≡ record { answer = answer_from j.budget c.now x; cells = c.cells }
      by (Over k b p) e = ap (outcome_from j lent s) (sym e) ∙ told_as k b p (subst Small (sym e) z.control)
      by (Runs b) e = lost (running (body_of (threads j.table) b)) refl e
      by UpdatePhase e = lost update_phase refl e
      by DeltaPhase e = lost delta_phase refl e
      by Turn e = lost turn_place refl e
      by Evaluation e = lost evaluation refl e
      by TimePhase e = lost time_phase refl e

  tells : IsOver s.machine.control → outcome_of j lent s ≡ told j.budget c
  unfolding told answered
  tells o = tells_from c.now.control st.counts.control o

-- the turns of the bound, from numbers that stand for the first state or one after it, tell the run
pub told_is : (j : Job) (lent firsts : List ℕ) (g : Given j (drop (cells j.table) lent) firsts) (m : ℕ) (c : Code) → StandsAt j (drop (cells j.table) lent) (steps j m (init j)) c → (k : ℕ) → bound j ≤ k → j.budget < 4294967296 → length j.choices ≤ 4096
    → told j.budget (turns j.table j.choices j.inputs firsts (threads j.table) k c) ≡ runs j lent
told_is j lent firsts g m c st k h small short =
    let rest : List ℕ = drop (cells j.table) lent in
    let q : Gone j rest k (steps j m (init j)) (turns j.table j.choices j.inputs firsts (threads j.table) k c) = turns_follow j rest firsts g k (steps j m (init j)) c st in
    let sp : StandsAt j rest (steps j (m + q.count) (init j)) (turns j.table j.choices j.inputs firsts (threads j.table) k c) = subst (λ (x : State). StandsAt j rest x (turns j.table j.choices j.inputs firsts (threads j.table) k c)) (sym (steps_add j q.count m (init j))) q.stands in
    let o : IsOver (steps j (m + q.count) (init j)).machine.control = over_after j (m + q.count) (omega (arith, q.many)) in
    sym (final j lent (m + q.count) o ∙ tells j lent rest refl (steps j (m + q.count) (init j)) (turns j.table j.choices j.inputs firsts (threads j.table) k c) sp (few j (m + q.count)) small short o)

-- The first state ---------------------------------------------------------------------------------------------------

-- a set has room for all threads, events and updates of an accepted design
few_all : (t : Table) → (judged t).number ≡ 0 → Room t
unfolding counts
few_all t good =
    let a = accepted_has t good in
    let c : Counted t (a.faultless 0 (omega (arith, a.all_due, due_above t))) = counted t (a.faultless 0 (omega (arith, a.all_due, due_above t))) in
    let x : threads t ≤ 16 = c.threads in
    let y : events t ≤ 32 = c.events in
    let z : updates t ≤ 16 = c.updates in
    record { threads = omega arith; events = omega arith; updates = omega arith }

abbrev pub first_code : Job → (rest : List ℕ) → Code
first_code j rest = code (first_now (threads j.table) j.budget) (first_lists (threads j.table) (events j.table)) (replicate (bodies j.table) 0) (replicate (cells j.table) 0 ++ rest)

pub first_stands : (j : Job) (rest : List ℕ) → (judged j.table).number ≡ 0 → StandsAt j rest (init j) (first_code j rest)
unfolding kernel body_of
first_stands j rest good = record {
  shows = first_shows j.table (few_all j.table good);
  counts = record {
    control = refl;
    time = refl;
    limit = refl;
    stage = refl;
    instructions = omega arith;
    choices = refl;
    inputs = refl;
    places = λ b h. get_or-replicate {A = ℕ} (bodies j.table) b 0 0 h;
    all_places = length-replicate {A = ℕ} (bodies j.table) 0;
    cells = refl;
    all_cells = length-replicate {A = ℕ} (cells j.table) 0;
  };
  fits = tt;
}

-- main's plain instructions are steps from it
module _ (j : Job) (rest firsts : List ℕ) (g : Given j rest firsts) where
  pub there : 0 < bodies j.table
  unfolding bodies
  there = omega arith

  first_place : ◌≡◌ {A = ℕ} (get_or (replicate (bodies j.table) 0) 0 0) 0
  first_place = get_or-replicate {A = ℕ} (bodies j.table) 0 0 0 there

  pub first_ran_lem : PlainRan j rest g.good 0 there (init j) (first_now (threads j.table) j.budget) (first_lists (threads j.table) (events j.table)) (replicate (bodies j.table) 0) (first_ran j.table firsts j.budget (replicate (cells j.table) 0 ++ rest))
  first_ran_lem =
      rw first_place at (plain_turn j rest firsts g 0 there (init j) (first_now (threads j.table) j.budget) (first_lists (threads j.table) (events j.table)) (replicate (bodies j.table) 0) (replicate (cells j.table) 0 ++ rest) (first_stands j rest g.good))
