-- What specs/Digits.antt states.
use Prim.Native.Nat.{ℕ, zero, suc, ◌+◌, ◌-◌, ◌≤◌, ◌<◌, ◌^◌}
use mathlib.Core.Path.{◌≡◌, refl}
use mathlib.Core.Bool.{Bool, true, false, ◌&&◌, ◌||◌}
use mathlib.Core.Logic.{◌⊎◌, inl, inr}
use mathlib.Core.List.{List, [], ◌∷◌}
use native.Mathlib.Omega.{arith}
use borrow.Author.Tests.{ltb-false, leb-true, eqb-true}
use lib.Dec.{eqb, ltb, leb}
use lib.ListN.{length}
use Rattle.std.specs.Prelude.{if◌then◌else◌}
use Rattle.laws.specs.Choice.{and_right}
use Rattle.image.specs.Limits.{most_cells, most_choices, most_inputs}
use Rattle.image.specs.Layout.{counts, bodies, lengths}
use Rattle.image.specs.Judge.{Said, fault, judged}
use Rattle.image.specs.First.{Answers, faulty, short, extra, accepted}
use Rattle.image.proofs.Walk.{due_above, lengths_grow}
use Rattle.image.proofs.Accepted.{Accepted, accepted_has, few_bodies, few_instructions, counted, answers, few_lines, fault_small}
use Rattle.kernel.specs.Search.{sum}
use Rattle.kernel.specs.Design.{Table, threads, updates, length_of}
use Rattle.kernel.specs.Kernel.{ran, triggered, freed, resumed, ended, dispatched, finished, began, moved, quiet, limited, History, Stage, before, during, past}
use Rattle.kernel.specs.Machine.{Job, State, init}
use Rattle.kernel.specs.Step.{steps}
use Rattle.kernel.specs.Run.{refused, bound, asked}
use Rattle.kernel.specs.Words.{has_ended, clock}
use Rattle.kernel.specs.Demand.{is_stop, Why, stopped, phase_over, no_start, none_left, not_runnable, Fit, Answered}
use Rattle.kernel.specs.Digits.{InDigits, Digits}
use Rattle.kernel.proofs.Small.{Few, few}
use Rattle.kernel.proofs.Rightly.{Inv, inv_steps, inv_init}
use Rattle.kernel.proofs.Told.{Tells, tells, answered_run}

-- Numbers --------------------------------------------------------------------------------------------------------

either : (a b : Bool) → a || b ≡ true → (a ≡ true) ⊎ (b ≡ true)
either true b q = inl refl
either false b q = inr q

stop_small : (n : ℕ) → is_stop n ≡ true → n < 256
stop_small n q = by (either (leb 12 n && leb n 19) (leb 22 n && leb n 23) q)
  where
    by : (leb 12 n && leb n 19 ≡ true) ⊎ (leb 22 n && leb n 23 ≡ true) → n < 256
    by (inl e) = omega (arith, leb-true n 19 (and_right (leb 12 n) (leb n 19) e))
    by (inr e) = omega (arith, leb-true n 23 (and_right (leb 22 n) (leb n 23) e))

-- the phase's number is 0 or 10
abbrev SmallStage : Stage → Type 0
SmallStage before = Unit {0}
SmallStage during = Unit {0}
SmallStage (past n) = n < 256

small_stage : (h : History) → SmallStage (clock h).stage
unfolding clock
small_stage [] = tt
small_stage (ran b x ∷ h) = small_stage h
small_stage (triggered e ∷ h) = small_stage h
small_stage (freed i ∷ h) = small_stage h
small_stage (resumed i ∷ h) = small_stage h
small_stage (ended i ∷ h) = small_stage h
small_stage (dispatched i ∷ h) = small_stage h
small_stage (finished u ∷ h) = small_stage h
small_stage (began l ∷ h) = tt
small_stage (moved t ∷ h) = small_stage h
small_stage (quiet ∷ h) = omega arith
small_stage (limited ∷ h) = omega arith

-- Threads --------------------------------------------------------------------------------------------------------

one_bit : (b : Bool) (x : ℕ) → ◌≤◌ (if b then 0 else x) x
one_bit true x = omega arith
one_bit false x = omega arith

bits_below : (f : ℕ → Bool) (n : ℕ) → sum (λ i. if f i then 0 else 2 ^ i) n < 2 ^ n
unfolding sum
bits_below f zero = omega arith
bits_below f (suc n) = omega (arith, one_bit (f n) (2 ^ n), bits_below f n)

powers : (m n k : ℕ) → m + n ≡ k → 2 ^ n ≤ 2 ^ k
powers zero n k e = let q : n ≡ k = omega arith in rw q (omega arith)
powers (suc m) n zero e = absurd (omega arith)
powers (suc m) n (suc k) e = omega (arith, powers m n k (omega arith))

-- An accepted table ----------------------------------------------------------------------------------------------

module _ (t : Table) (good : (judged t).number ≡ 0) where
  all : Accepted t (judged t)
  all = accepted_has t good

  fine : (i : ℕ) → i ≤ bodies t → fault t i ≡ 0
  fine i h = all.faultless i (omega (arith, all.all_due, due_above t))

  few_threads : threads t ≤ 16
  unfolding counts
  few_threads = (counted t (fine 0 (omega arith))).threads

  body_small : (b : ℕ) → b < threads t + updates t + 1 → b < 256
  unfolding bodies
  body_small b h = omega (arith, few_bodies t (fine 0 (omega arith)))

  place_small : (b p : ℕ) → b < threads t + updates t + 1 → p < length_of t b → p < 65536
  unfolding bodies lengths
  place_small b p h l = omega (arith, lengths_grow t (suc b) (bodies t) (omega arith), few_instructions t fine)

  bits_small : (h : History) → sum (λ i. if has_ended h i then 0 else 2 ^ i) (threads t) < 65536
  bits_small h =
      omega (arith, powers (16 - threads t) (threads t) 16 (omega (arith, few_threads)), bits_below (has_ended h) (threads t))

-- The answer -----------------------------------------------------------------------------------------------------

module _ (j : Job) (lent : List ℕ) where
  refused_small : (n i : ℕ) → n < 256 → i < 65536 → InDigits (refused n i lent).answer
  refused_small n i h l = record {
    number = h;
    body = omega arith;
    place = l;
    time = omega arith;
    instructions = omega arith;
    choices = omega arith;
    inputs = omega arith;
    threads = omega arith;
  }

  judged_small : (s : Said) → Answers j.table s → s.number < 256
  judged_small s (faulty n i f) = omega (arith, f.number, fault_small j.table i)
  judged_small s (short f h) = omega arith
  judged_small s (extra f h) = omega arith
  judged_small s (accepted f h) = omega arith

  why_small : (h : History) (n b p : ℕ) → (judged j.table).number ≡ 0 → Why j h n b p → (n < 256) × (b < 256) × (p < 65536)
  why_small h n b p good (stopped l m (inl q)) = (stop_small n q, body_small j.table good b l, place_small j.table good b p l m)
  why_small h n b p good (stopped l m (inr w)) = absurd (w.1 good)
  why_small h n b p good (phase_over q) = (rw q at (small_stage h), omega arith, omega arith)
  why_small h n b p good (no_start q) = (omega arith, omega arith, omega arith)
  why_small h n b p good (none_left q r) = (omega arith, omega arith, omega arith)
  why_small h n b p good (not_runnable c q r z) = (omega arith, omega arith, omega arith)

  module _ (small : j.budget < 4294967296) where
    run_small : Fit j lent → InDigits (asked j lent).answer
    run_small f =
        let s : State = steps j (bound j) (init j) in
        let a : Answered j s.history (asked j lent).answer = answered_run j lent (inv_init j) f in
        let i : Inv j s = inv_steps j (bound j) (init j) (inv_init j) in
        let y : Tells j s.history s.machine = tells j (bound j) (inv_init j) in
        let z : Few j s.machine = few j (bound j) in
        let w = why_small s.history _ _ _ f.accepted a.why in
        record {
          number = w.0;
          body = w.1;
          place = w.2;
          time = omega (arith, a.told.time, i.sound.in_range);
          instructions = omega (arith, a.told.instructions, y.counts.instructions, z.spent);
          choices = omega (arith, a.told.choices, y.counts.choices, z.choices, f.choices);
          inputs = omega (arith, a.told.inputs, y.counts.inputs, z.taken, f.inputs);
          threads = rw a.told.threads (bits_small j.table f.accepted s.history);
        }

pub digits : Digits
unfolding asked
digits j lent small =
    by (ltb most_choices (length j.choices)) (ltb most_inputs (length j.inputs)) (ltb (length lent) most_cells) (eqb (judged j.table).number 0) refl refl refl refl
  where
    by : (c i r g : Bool) → ltb most_choices (length j.choices) ≡ c → ltb most_inputs (length j.inputs) ≡ i → ltb (length lent) most_cells ≡ r → eqb (judged j.table).number 0 ≡ g → InDigits (asked j lent).answer
    by true i r g p q u v = rw p (refused_small j lent 9 1 (omega arith) (omega arith))
    by false true r g p q u v = rw (p, q) (refused_small j lent 9 2 (omega arith) (omega arith))
    by false false true g p q u v = rw (p, q, u) (refused_small j lent 8 0 (omega arith) (omega arith))
    by false false false false p q u v =
        rw (p, q, u, v) (refused_small j lent (judged j.table).number (judged j.table).line (judged_small j lent (judged j.table) (answers j.table)) (omega (arith, few_lines j.table)))
    by false false false true p q u v =
        run_small j lent small (record {
          choices = ltb-false most_choices (length j.choices) p;
          inputs = ltb-false most_inputs (length j.inputs) q;
          room = ltb-false (length lent) most_cells u;
          accepted = eqb-true (judged j.table).number 0 v;
        })
