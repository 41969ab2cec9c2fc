-- A step, by the place where the machine stands and the tests that the step makes there: one law for each branch.
use Prim.Native.Nat.{ℕ, zero, suc}
use mathlib.Core.Path.{◌≡◌, refl, ap, ◌∙◌}
use mathlib.Core.Bool.{true, false}
use mathlib.Core.List.{[], ◌∷◌}
use Rattle.kernel.specs.Search.{none, found, nth, first}
use Rattle.kernel.specs.Design.{Body, main, thread, update, updates}
use Rattle.kernel.specs.Kernel.{delta, ended, finished, quiet, limited, kernel}
use Rattle.kernel.specs.Pending.{runnable, is_requested, least_time, above, served}
use Rattle.kernel.specs.Effect.{stops}
use Rattle.kernel.specs.Machine.{Job, Control, running, update_phase, delta_phase, turn, evaluation, time_phase, over, State, Out, out, when◌then◌else◌, given◌or_else◌take◌, go_to}
use Rattle.kernel.specs.Step.{to, ends, due, paid, perform, effect_of, phase_number, at_end, some_runnable, dispatch, enter, closes, time_next, move_to, step_from, advance, step, steps}
use Rattle.kernel.proofs.Branch.{Branch, obeys, unpaid, main_ends, thread_ends, update_ends, idles, unchosen, refuses, dispatches, updated, enters, serves, turns, waits, quiets, limits, moves, rests}

pub steps_one : (j : Job) (s : State) → steps j 1 s ≡ step j s
unfolding steps
steps_one j s = refl

-- the last of so many steps
pub steps_last : (j : Job) (n : ℕ) (s : State) → steps j (suc n) s ≡ step j (steps j n s)
unfolding steps
steps_last j zero s = refl
steps_last j (suc n) s = steps_last j n (step j s)

pub from_branch : (j : Job) (s : State) (c : Control) (o : Out) → Branch j s c o → step_from j s c ≡ o
unfolding step_from at_end when◌then◌else◌ given◌or_else◌take◌
from_branch j s c o (obeys b p q) = rw (p, q)
from_branch j s c o (unpaid b p q) = rw (p, q)
from_branch j s c o (main_ends q) = rw q
from_branch j s c o (thread_ends i q) = rw q
from_branch j s c o (update_ends u q) = rw q
from_branch j s c o (idles q) = rw q
from_branch j s c o (unchosen p q) = rw (p, q)
from_branch j s c o (refuses n p q r) = rw (p, q, r)
from_branch j s c o (dispatches n p q r) = rw (p, q, r)
from_branch j s c o (updated q) = rw q
from_branch j s c o (enters u q) = rw q
from_branch j s c o serves = refl
from_branch j s c o (turns q) = rw q
from_branch j s c o (waits q) = rw q
from_branch j s c o (quiets q) = rw q
from_branch j s c o (limits d p q) = rw (p, q)
from_branch j s c o (moves d p q) = rw (p, q)
from_branch j s c o (rests n b p) = refl

-- all the laws in one
pub step_by : (j : Job) (s : State) (c : Control) (o : Out) → s.machine.control ≡ c → Branch j s c o → step j s ≡ advance s o
unfolding step
step_by j s c o e b = ap (λ (x : Control). advance s (step_from j s x)) e ∙ ap (advance s) (from_branch j s c o b)

module _ (j : Job) (s : State) where
  -- A body runs
  pub step_obeys : (b : Body) → s.machine.control ≡ running b → due j s b ≡ true → paid j s ≡ true → step j s ≡ advance s (perform j s b (effect_of j s b))
  step_obeys b e p q = step_by j s (running b) _ e (obeys b p q)

  pub step_unpaid : (b : Body) → s.machine.control ≡ running b → due j s b ≡ true → paid j s ≡ false → step j s ≡ advance s (perform j s b (stops 22))
  step_unpaid b e p q = step_by j s (running b) _ e (unpaid b p q)

  pub step_main_ends : s.machine.control ≡ running main → due j s main ≡ false → step j s ≡ advance s (ends j s (phase_number j s (kernel s.history).stage))
  step_main_ends e q = step_by j s (running main) _ e (main_ends q)

  pub step_thread_ends : (i : ℕ) → s.machine.control ≡ running (thread i) → due j s (thread i) ≡ false → step j s ≡ advance s (out (ended i ∷ []) (go_to evaluation s.machine))
  step_thread_ends i e q = step_by j s (running (thread i)) _ e (thread_ends i q)

  pub step_update_ends : (u : ℕ) → s.machine.control ≡ running (update u) → due j s (update u) ≡ false → step j s ≡ advance s (out (finished u ∷ []) (go_to update_phase s.machine))
  step_update_ends u e q = step_by j s (running (update u)) _ e (update_ends u q)

  -- Evaluation
  pub step_idles : s.machine.control ≡ evaluation → some_runnable j s ≡ false → step j s ≡ advance s (to j s update_phase)
  step_idles e q = step_by j s evaluation _ e (idles q)

  pub step_unchosen : s.machine.control ≡ evaluation → some_runnable j s ≡ true → nth j.choices s.machine.choices ≡ none → step j s ≡ advance s (ends j s 20)
  step_unchosen e p q = step_by j s evaluation _ e (unchosen p q)

  pub step_refuses : (c : ℕ) → s.machine.control ≡ evaluation → some_runnable j s ≡ true → nth j.choices s.machine.choices ≡ found c → runnable j.table (kernel s.history) c ≡ false
      → step j s ≡ advance s (ends j s 21)
  step_refuses c e p q r = step_by j s evaluation _ e (refuses c p q r)

  pub step_dispatches : (c : ℕ) → s.machine.control ≡ evaluation → some_runnable j s ≡ true → nth j.choices s.machine.choices ≡ found c → runnable j.table (kernel s.history) c ≡ true
      → step j s ≡ advance s (dispatch j s c)
  step_dispatches c e p q r = step_by j s evaluation _ e (dispatches c p q r)

  -- The update phase and the delta phase
  pub step_updated : s.machine.control ≡ update_phase → first (is_requested j.table (kernel s.history)) (updates j.table) ≡ none → step j s ≡ advance s (to j s delta_phase)
  step_updated e q = step_by j s update_phase _ e (updated q)

  pub step_enters : (u : ℕ) → s.machine.control ≡ update_phase → first (is_requested j.table (kernel s.history)) (updates j.table) ≡ found u
      → step j s ≡ advance s (enter j s u)
  step_enters u e q = step_by j s update_phase _ e (enters u q)

  pub step_serves : s.machine.control ≡ delta_phase → step j s ≡ advance s (out (served j.table (kernel s.history) delta) (go_to turn s.machine))
  step_serves e = step_by j s delta_phase _ e serves

  -- The turn to evaluation or time
  pub step_turns : s.machine.control ≡ turn → some_runnable j s ≡ true → step j s ≡ advance s (to j s evaluation)
  step_turns e q = step_by j s turn _ e (turns q)

  pub step_waits : s.machine.control ≡ turn → some_runnable j s ≡ false → step j s ≡ advance s (time_next j s)
  step_waits e q = step_by j s turn _ e (waits q)

  -- Time
  pub step_quiets : s.machine.control ≡ time_phase → least_time j.table (kernel s.history) ≡ none → step j s ≡ advance s (closes j s quiet)
  step_quiets e q = step_by j s time_phase _ e (quiets q)

  pub step_limits : (d : ℕ) → s.machine.control ≡ time_phase → least_time j.table (kernel s.history) ≡ found d → above d (kernel s.history).limit ≡ true
      → step j s ≡ advance s (closes j s limited)
  step_limits d e p q = step_by j s time_phase _ e (limits d p q)

  pub step_moves : (d : ℕ) → s.machine.control ≡ time_phase → least_time j.table (kernel s.history) ≡ found d → above d (kernel s.history).limit ≡ false
      → step j s ≡ advance s (move_to j s d)
  step_moves d e p q = step_by j s time_phase _ e (moves d p q)

  -- Over
  pub step_rests : (n b p : ℕ) → s.machine.control ≡ over n b p → step j s ≡ advance s (to j s (over n b p))
  step_rests n b p e = step_by j s (over n b p) _ e (rests n b p)
