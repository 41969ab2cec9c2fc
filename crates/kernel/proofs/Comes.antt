-- With nothing to do the machine comes to the time phase, and nothing happens before.
use Prim.Native.Nat.{ℕ, zero, suc, ◌<◌}
use mathlib.Core.Path.{◌≡◌, refl, ap, ◌∙◌}
use mathlib.Core.Bool.{Bool, true, false}
use mathlib.Core.List.{[]}
use native.Mathlib.Omega.{arith}
use Rattle.kernel.specs.Search.{each}
use Rattle.kernel.specs.Design.{Table, main, thread, update, threads, events, updates}
use Rattle.kernel.specs.Kernel.{Due, never, delta, at, Kernel, triggered, freed, resumed, History, kernel}
use Rattle.kernel.specs.Pending.{due_of, runnable, is_requested, resume_due, same_due, served}
use Rattle.kernel.specs.Machine.{Job, Control, running, update_phase, delta_phase, turn, evaluation, time_phase, over, Machine, State, out, go_to}
use Rattle.kernel.specs.Step.{some_runnable, advance, step, steps}
use Rattle.kernel.specs.Words.{event, wait, resume, Still}
use Rattle.kernel.specs.Demand.{Rightly, InPhase}
use Rattle.kernel.proofs.Search.{any_all, first_all}
use Rattle.kernel.proofs.Laws.{step_idles, step_updated, step_serves, step_waits}
use Rattle.kernel.proofs.Fits.{Fits}
use Rattle.kernel.proofs.Words.{runs_runnable, wants_requested}
use Rattle.kernel.proofs.Due.{Pending, delta_never, pending_stands}

pub not_true : (b : Bool) → (b ≡ true → ⊥) → b ≡ false
not_true true n = absurd (n refl)
not_true false n = refl

each_none : {A : Type 0} (p : ℕ → Bool) (f : ℕ → A) (n : ℕ) → ((i : ℕ) → i < n → p i ≡ false) → each p f n ≡ []
unfolding each
each_none p f zero h = refl
each_none p f (suc n) h = rw (h n (omega arith)) (each_none p f n (λ i l. h i (omega arith)))

same_delta : (x : Due) → (x ≡ delta → ⊥) → same_due x delta ≡ false
same_delta never n = refl
same_delta delta n = absurd (n refl)
same_delta (at u) n = refl

served_none : (t : Table) (k : Kernel) → (Pending t k delta → ⊥) → served t k delta ≡ []
unfolding served
served_none t k n = rw (
  each_none (λ i. same_due (resume_due (k.threads i).resuming) delta) resumed (threads t) (λ i l. same_delta (resume_due (k.threads i).resuming) (λ q. n (record { work = resume i; within = l; due = q }))),
  each_none (λ i. same_due (due_of (k.threads i).wait) delta) freed (threads t) (λ i l. same_delta (due_of (k.threads i).wait) (λ q. n (record { work = wait i; within = l; due = q }))),
  each_none (λ e. same_due (k.pends e) delta) triggered (events t) (λ e l. same_delta (k.pends e) (λ q. n (record { work = event e; within = l; due = q }))),
)

-- after so many steps
pub record ComesToTime (j : Job) (s : State) : Type 0 where
  pub after : ℕ
  pub there : (steps j after s).machine.control ≡ time_phase
  pub same : (steps j after s).history ≡ s.history

module _ (j : Job) (h : History) (p : Rightly j.table h) (c : Still j.table h) where
  abbrev t : Table
  t = j.table

  abbrev k : Kernel
  k = kernel h

  abbrev state : Machine → State
  state m = record { history = h; machine = m }

  next : (m n : Machine) → step j (state m) ≡ state n → ComesToTime j (state n) → ComesToTime j (state m)
  unfolding steps
  next m n q r = record {
    after = suc r.after;
    there = ap (λ (x : State). (steps j r.after x).machine.control) q ∙ r.there;
    same = ap (λ (x : State). (steps j r.after x).history) q ∙ r.same;
  }

  no_one : (m : Machine) → some_runnable j (state m) ≡ false
  no_one m = any_all (runnable t k) (threads t) (λ i l. not_true (runnable t k i) (λ q. c.no_thread i (runs_runnable t h i p q)))

  come_time : (m : Machine) → m.control ≡ time_phase → ComesToTime j (state m)
  unfolding steps
  come_time m e = record { after = 0; there = e; same = refl }

  come_turn : (m : Machine) → m.control ≡ turn → ComesToTime j (state m)
  come_turn m e = next m (go_to time_phase m) (step_waits j (state m) e (no_one m)) (come_time (go_to time_phase m) refl)

  come_delta : (m : Machine) → m.control ≡ delta_phase → ComesToTime j (state m)
  come_delta m e =
      next m (go_to turn m)
      (step_serves j (state m) e ∙ ap (λ (x : History). advance (state m) (out x (go_to turn m))) (served_none t k (λ w. c.no_delta (pending_stands t h delta delta_never w))))
      (come_turn (go_to turn m) refl)

  come_update : (m : Machine) → m.control ≡ update_phase → ComesToTime j (state m)
  come_update m e =
      next m (go_to delta_phase m)
      (step_updated j (state m) e (first_all (is_requested t k) (updates t) (λ u l. not_true (is_requested t k u) (λ q. c.no_update u (wants_requested t h u q)))))
      (come_delta (go_to delta_phase m) refl)

  come_evaluation : (m : Machine) → m.control ≡ evaluation → ComesToTime j (state m)
  come_evaluation m e = next m (go_to update_phase m) (step_idles j (state m) e (no_one m)) (come_update (go_to update_phase m) refl)

  pub come : (m : Machine) (a : Control) → m.control ≡ a → Fits t k a → InPhase a → ComesToTime j (state m)
  come m (running main) e f l = absurd l
  come m (running (thread i)) e f l = absurd (c.no_thread i (runs_runnable t h i p f))
  come m (running (update u)) e f l = absurd (c.no_update u (wants_requested t h u f))
  come m update_phase e f l = come_update m e
  come m delta_phase e f l = come_delta m e
  come m turn e f l = come_turn m e
  come m evaluation e f l = come_evaluation m e
  come m time_phase e f l = come_time m e
  come m (over n b q) e f l = absurd l
