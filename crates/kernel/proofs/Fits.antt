-- What holds where the machine stands, and every step keeps it: a running thread is runnable, and a running update requested.
use Prim.Native.Nat.{ℕ, ◌+◌, ◌<◌}
use mathlib.Core.Path.{◌≡◌, refl, sym, subst}
use mathlib.Core.Bool.{Bool, true, false, ◌&&◌}
use mathlib.Core.List.{◌∷◌, ◌++◌}
use native.Mathlib.Omega.{arith}
use lib.Dec.{ltb, eqb}
use borrow.Author.Tests.{ltb-true}
use Rattle.std.specs.Prelude.{if◌then◌else◌}
use Rattle.laws.specs.Choice.{and_left}
use Rattle.kernel.specs.Design.{Table, Body, main, thread, update, threads, updates, number}
use Rattle.kernel.specs.Kernel.{Kernel, Deed, nothing, reads, notifies, asks, waits, requests, suspends, resumes, ran, after, kernel}
use Rattle.kernel.specs.Pending.{runnable, is_requested}
use Rattle.kernel.specs.Effect.{Effect, stops, sets, takes, goes, does, begins}
use Rattle.kernel.specs.Machine.{Job, Control, running, update_phase, delta_phase, turn, evaluation, time_phase, over, State, Out}
use Rattle.kernel.specs.Step.{effect_of, runs_on, perform, step_from, step}
use Rattle.kernel.proofs.Search.{first_found}
use Rattle.kernel.proofs.Branch as B
use Rattle.kernel.proofs.Branch.{Branch, branch}

abbrev pub Fits : Table → Kernel → Control → Type 0
Fits t k (running main) = Unit {0}
Fits t k (running (thread i)) = runnable t k i ≡ true
Fits t k (running (update u)) = is_requested t k u ≡ true
Fits t k update_phase = Unit {0}
Fits t k delta_phase = Unit {0}
Fits t k turn = Unit {0}
Fits t k evaluation = Unit {0}
Fits t k time_phase = Unit {0}
Fits t k (over n b p) = Unit {0}

-- a body that runs is one of the design's
pub body_there : (t : Table) (k : Kernel) (b : Body) → Fits t k (running b) → number t b < threads t + updates t + 1
body_there t k main f = omega arith
body_there t k (thread i) f =
    let h : i < threads t = ltb-true i (threads t) (and_left (ltb i (threads t)) _ f) in
    omega arith
body_there t k (update u) f =
    let h : u < updates t = ltb-true u (updates t) (and_left (ltb u (updates t)) (k.requested u) f) in
    omega arith

-- an update stays requested while it runs
still_asked : (n z b : Bool) → n && b ≡ true → n && (if z then true else b) ≡ true
still_asked true true b q = refl
still_asked true false b q = q
still_asked false z b q = q

update_on : (t : Table) (k : Kernel) (u : ℕ) (x : Deed) → is_requested t k u ≡ true → is_requested t (after (ran (update u) x) k) u ≡ true
unfolding after
update_on t k u nothing q = q
update_on t k u reads q = q
update_on t k u (notifies e) q = q
update_on t k u (asks e d) q = q
update_on t k u (waits w) q = q
update_on t k u (requests v) q = still_asked (ltb u (updates t)) (eqb u v) (k.requested u) q
update_on t k u (suspends i) q = q
update_on t k u (resumes i) q = q

module _ (j : Job) (s : State) where
  abbrev t : Table
  t = j.table

  abbrev k : Kernel
  k = kernel s.history

  abbrev Kept : Out → Type 0
  Kept o = Fits t (kernel (o.happens ++ s.history)) o.next.control

  -- after an instruction the body runs, or evaluation follows
  pub on_either : (P : Control → Type 0) → ((b : Body) → P (running b)) → P evaluation → (b : Body) (n : Kernel) → P (runs_on j s b n)
  on_either P f e main n = f main
  on_either P f e (thread i) n = go (runnable t n i)
    where
      go : (z : Bool) → P (if z then running (thread i) else evaluation)
      go true = f (thread i)
      go false = e
  on_either P f e (update u) n = f (update u)

  -- "A dispatch runs it until it waits, suspends itself or reaches its end."
  runs_on_lem : (b : Body) (x : Deed) → Fits t k (running b) → Fits t (kernel (ran b x ∷ s.history)) (runs_on j s b (kernel (ran b x ∷ s.history)))
  unfolding kernel
  runs_on_lem main x f = tt
  runs_on_lem (thread i) x f = go (runnable t (after (ran (thread i) x) k) i) refl
    where
      go : (z : Bool) → runnable t (after (ran (thread i) x) k) i ≡ z → Fits t (after (ran (thread i) x) k) (if z then running (thread i) else evaluation)
      go true q = q
      go false q = tt
  runs_on_lem (update u) x f = update_on t k u x f

  -- and a body goes on where nothing is asked of the kernel
  goes_on : (b : Body) (x : Deed) → after (ran b x) k ≡ k → Fits t k (running b) → Fits t (kernel (ran b x ∷ s.history)) (running b)
  unfolding kernel
  goes_on b x q f = subst (λ (u : Kernel). Fits t u (running b)) (sym q) f

  fits_perform : (b : Body) (x : Effect) → Fits t k (running b) → Kept (perform j s b x)
  unfolding perform after
  fits_perform b (stops n) f = tt
  fits_perform b (sets d x) f = goes_on b nothing refl f
  fits_perform b (takes d x) f = goes_on b reads refl f
  fits_perform b (goes p) f = goes_on b nothing refl f
  fits_perform b (does x) f = runs_on_lem b x f
  fits_perform b (begins l) f = tt

  fits_branch : (c : Control) (o : Out) → Branch j s c o → Fits t k c → Kept o
  unfolding kernel after
  fits_branch c o (B.obeys b p q) f = fits_perform b (effect_of j s b) f
  fits_branch c o (B.unpaid b p q) f = fits_perform b (stops 22) f
  fits_branch c o (B.main_ends q) f = tt
  fits_branch c o (B.thread_ends i q) f = tt
  fits_branch c o (B.update_ends u q) f = tt
  fits_branch c o (B.idles q) f = tt
  fits_branch c o (B.unchosen p q) f = tt
  fits_branch c o (B.refuses n p q r) f = tt
  fits_branch c o (B.dispatches n p q r) f = r
  fits_branch c o (B.updated q) f = tt
  fits_branch c o (B.enters u q) f = (first_found (is_requested t k) (updates t) u q).passes
  fits_branch c o B.serves f = tt
  fits_branch c o (B.turns q) f = tt
  fits_branch c o (B.waits q) f = tt
  fits_branch c o (B.quiets q) f = tt
  fits_branch c o (B.limits d p q) f = tt
  fits_branch c o (B.moves d p q) f = tt
  fits_branch c o (B.rests n b p) f = tt

pub fits_step : (j : Job) (s : State) → Fits j.table (kernel s.history) s.machine.control → Fits j.table (kernel (step j s).history) (step j s).machine.control
unfolding step
fits_step j s f = fits_branch j s s.machine.control (step_from j s s.machine.control) (branch j s s.machine.control) f
