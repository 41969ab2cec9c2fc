-- The bound on the steps of a run is enough, for every table, choices, inputs and budget.
use Prim.Native.Nat.{ℕ, zero, suc, ◌+◌, ◌-◌, ◌≤◌, ◌<◌}
use mathlib.Core.Path.{◌≡◌, refl, ap, ◌∙◌, sym}
use mathlib.Core.List.{[]}
use mathlib.Core.Logic.{◌⊎◌, inl, inr}
use native.Mathlib.Omega.{arith}
use native.Mathlib.Nat.{zero-add, suc-add, add_comm}
use Rattle.kernel.specs.Search.{any, sum}
use Rattle.kernel.specs.Design.{Table, main, thread, update, threads, events, updates}
use Rattle.kernel.specs.Kernel.{Kernel, kernel}
use Rattle.kernel.specs.Pending.{runnable}
use Rattle.kernel.specs.Machine.{Job, Control, running, update_phase, delta_phase, turn, evaluation, time_phase, over, State, out, go_to, init}
use Rattle.kernel.specs.Step.{step, steps, advance}
use Rattle.kernel.specs.Run.{bound, outcome_of, runs}
use Rattle.kernel.specs.Enough.{Over, Enough, Final}
use Rattle.kernel.proofs.Laws.{step_rests}
use Rattle.kernel.proofs.Measure.{load, load_is}
use Rattle.kernel.proofs.Fits.{Fits, fits_step}
use Rattle.kernel.proofs.Bound.{left, weight, remains_of, evaluation_weight, falls}

over_or_not : (t : Table) (k : Kernel) (c : Control) → Over c ⊎ (0 < weight t k c)
over_or_not t k (over n b p) = inl (record { number = n; body = b; place = p; is = refl })
over_or_not t k (running main) = inr (omega arith)
over_or_not t k (running (thread i)) = inr (omega arith)
over_or_not t k (running (update u)) = inr (omega arith)
over_or_not t k update_phase = inr (omega arith)
over_or_not t k delta_phase = inr (omega arith)
over_or_not t k turn = inr (omega arith)
over_or_not t k evaluation = inr (evaluation_weight (any (runnable t k) (threads t))).0
over_or_not t k time_phase = inr (omega arith)

-- what is over stays as it is
pub stays : (j : Job) (s : State) → Over s.machine.control → step j s ≡ s
stays j s o =
    step_rests j s o.number o.body o.place o.is
    ∙ ap (λ (c : Control). advance s (out [] (go_to c s.machine))) (sym o.is)

pub stays_all : (j : Job) (n : ℕ) (s : State) → Over s.machine.control → steps j n s ≡ s
unfolding steps
stays_all j zero s o = refl
stays_all j (suc n) s o = rw (stays j s o) (stays_all j n s o)

pub steps_add : (j : Job) (m n : ℕ) (s : State) → steps j (n + m) s ≡ steps j m (steps j n s)
unfolding steps
steps_add j m zero s = rw zero-add
steps_add j m (suc n) s = rw suc-add (steps_add j m n (step j s))

enough_from : (j : Job) (n : ℕ) (s : State) → Fits j.table (kernel s.history) s.machine.control → remains_of j s ≤ n → Over (steps j n s).machine.control
unfolding steps
enough_from j zero s f h = go (over_or_not j.table (kernel s.history) s.machine.control)
  where
    go : Over s.machine.control ⊎ (0 < weight j.table (kernel s.history) s.machine.control) → Over s.machine.control
    go (inl o) = o
    go (inr l) = absurd (omega arith)
enough_from j (suc n) s f h =
    go (over_or_not j.table (kernel s.history) s.machine.control) (enough_from j n (step j s) (fits_step j s f))
  where
    go : Over s.machine.control ⊎ (0 < weight j.table (kernel s.history) s.machine.control) → (remains_of j (step j s) ≤ n → Over (steps j n (step j s)).machine.control) → Over (steps j n (step j s)).machine.control
    go (inl o) r = rw (stays j s o, stays_all j n s o) o
    go (inr l) r = let e = falls j s l f in r (omega arith)

sum_zero : (n : ℕ) → sum (λ i. 0) n ≡ 0
unfolding sum
sum_zero zero = refl
sum_zero (suc n) = rw (sum_zero n)

at_first : (j : Job) → remains_of j (init j) ≤ bound j
unfolding kernel left
at_first j =
    let z : load j.table (kernel []) ≡ 0 = load_is j.table (kernel []) ∙ rw (sum_zero (events j.table), sum_zero (threads j.table), sum_zero (updates j.table)) in
    omega arith

pub enough : Enough
enough j = enough_from j (bound j) (init j) tt (at_first j)

-- any greater number of steps is enough too
pub over_after : (j : Job) (n : ℕ) → bound j ≤ n → Over (steps j n (init j)).machine.control
over_after j n h =
    let e : bound j + (n - bound j) ≡ n = omega arith in
    rw (← e, steps_add j (n - bound j) (bound j) (init j), stays_all j (n - bound j) (steps j (bound j) (init j)) (enough j)) (enough j)

-- two states of one run that are over are one
one_final : (j : Job) (m n : ℕ) (s : State) → Over (steps j m s).machine.control → Over (steps j n s).machine.control → steps j m s ≡ steps j n s
one_final j m n s p q =
    sym (stays_all j n (steps j m s) p) ∙ sym (steps_add j n m s) ∙ rw (add_comm m n) (steps_add j m n s) ∙ stays_all j m (steps j n s) q

pub final : Final
unfolding runs
final j lent n o = ap (outcome_of j lent) (one_final j (bound j) n (init j) (enough j) o)
