-- Every step of a run that is not over takes something away: of the instructions and choices left, of the kernel's work, or of the way to the end.
use Prim.Native.Nat.{ℕ, suc, ◌+◌, ◌-◌, ◌*◌, ◌≤◌, ◌<◌}
use mathlib.Core.Path.{◌≡◌, refl}
use mathlib.Core.List.{[], ◌∷◌, ◌++◌, append_assoc}
use mathlib.Core.Bool.{Bool, true, false}
use native.Mathlib.Omega.{arith}
use lib.Dec.{ltb}
use lib.ListN.{length}
use borrow.Author.Tests.{ltb-true}
use Rattle.std.specs.Prelude.{if◌then◌else◌}
use Rattle.laws.specs.Choice.{and_left, and_right}
use Rattle.kernel.specs.Search.{Found, any}
use Rattle.kernel.specs.Design.{Table, Body, main, thread, update, threads, updates}
use Rattle.kernel.specs.Kernel.{delta, Kernel, Deed, nothing, reads, Happening, ran, began, ended, moved, quiet, limited, after, kernel}
use Rattle.kernel.specs.Pending.{runnable}
use Rattle.kernel.specs.Effect.{Effect, stops, sets, takes, goes, does, begins}
use Rattle.kernel.specs.Machine.{Job, Control, running, update_phase, delta_phase, turn, evaluation, time_phase, over, Machine, State, Out, out, go_to}
use Rattle.kernel.specs.Step.{effect_of, runs_on, perform, step_from, step}
use Rattle.kernel.proofs.Search.{nth_some}
use Rattle.kernel.proofs.Measure.{load, load_le, load_ran, load_ended, load_finished, load_served, load_moved}
use Rattle.kernel.proofs.Branch as B
use Rattle.kernel.proofs.Branch.{Branch, branch}
use Rattle.kernel.proofs.Fits.{Fits}

-- instructions and choices left
unfoldable pub left : Job → ℕ → ℕ → ℕ
left j i c = (j.budget - i) + (length j.choices - c)

left_instruction : (j : Job) (i c : ℕ) → i < j.budget → left j i c ≡ suc (left j (suc i) c)
unfolding left
left_instruction j i c h = omega arith

left_choice : (j : Job) (i c : ℕ) → c < length j.choices → left j i c ≡ suc (left j i (suc c))
unfolding left
left_choice j i c h = omega arith

-- the way from here to the end, where neither an instruction nor a choice is used and the kernel's work stays the same
abbrev pub weight : Table → Kernel → Control → ℕ
weight t k (over n b p) = 0
weight t k (running main) = 1
weight t k time_phase = 2
weight t k turn = 3
weight t k delta_phase = 4
weight t k (running (update u)) = 5
weight t k update_phase = 6
weight t k evaluation = if any (runnable t k) (threads t) then 2 else 7
weight t k (running (thread i)) = 8

-- after i instructions and c choices, with the kernel k, at a place
abbrev pub remains : Job → (i c : ℕ) → Kernel → Control → ℕ
remains j i c k a = 8 * left j i c + (2 * load j.table k + weight j.table k a)

abbrev pub remains_of : Job → State → ℕ
remains_of j s = remains j s.machine.instructions s.machine.choices (kernel s.history) s.machine.control

pub evaluation_weight : (b : Bool) → (0 < (if b then 2 else 7)) × ((if b then 2 else 7) ≤ 7)
evaluation_weight true = omega arith
evaluation_weight false = omega arith

module _ (j : Job) (s : State) where
  abbrev t : Table
  t = j.table

  abbrev k : Kernel
  k = kernel s.history

  abbrev m : Machine
  m = s.machine

  abbrev here : Control → ℕ
  here c = remains j m.instructions m.choices k c

  abbrev Less : Control → Out → Type 0
  Less c o = remains j o.next.instructions o.next.choices (kernel (o.happens ++ s.history)) o.next.control < here c

  body_weight : (b : Body) → 0 < weight t k (running b)
  body_weight main = omega arith
  body_weight (thread i) = omega arith
  body_weight (update u) = omega arith

  same_weight : (b : Body) (c : Kernel) → weight t c (running b) ≡ weight t k (running b)
  same_weight main c = refl
  same_weight (thread i) c = refl
  same_weight (update u) c = refl

  on_weight : (b : Body) (c : Kernel) → weight t c (runs_on j s b c) ≤ weight t k (running b)
  on_weight main c = omega arith
  on_weight (thread i) c = go (runnable t c i)
    where
      go : (z : Bool) → weight t c (if z then running (thread i) else evaluation) ≤ 8
      go true = omega arith
      go false = omega (arith, (evaluation_weight (any (runnable t c) (threads t))).1)
  on_weight (update u) c = omega arith

  same_load : (x : Happening) → (after x k).pends ≡ k.pends → (after x k).threads ≡ k.threads → (after x k).requested ≡ k.requested → load t (after x k) ≤ load t k
  same_load x a b c = load_le t k (after x k) (λ e. rw a (omega arith)) (λ i. rw b (omega arith)) (λ u. rw c (omega arith))

  load_began : (l : Found) → load t (after (began l) k) ≤ load t k
  unfolding after
  load_began l = same_load (began l) refl refl refl

  -- an instruction is completed, and the body goes on or gives way
  less_ran : (b : Body) (x : Deed) (c : Control) → m.instructions < j.budget → weight t (after (ran b x) k) c ≤ weight t k (running b) → remains j (suc m.instructions) m.choices (after (ran b x) k) c < here (running b)
  less_ran b x c h w =
      let e = left_instruction j m.instructions m.choices h in
      let l = load_ran t k b x in
      omega arith

  less_on : (b : Body) (x : Deed) → m.instructions < j.budget → remains j (suc m.instructions) m.choices (after (ran b x) k) (running b) < here (running b)
  less_on b x h = less_ran b x (running b) h (omega (arith, same_weight b (after (ran b x) k)))

  less_perform : (b : Body) (x : Effect) → m.instructions < j.budget → Less (running b) (perform j s b x)
  unfolding perform kernel
  less_perform b (stops n) h = omega (arith, body_weight b)
  less_perform b (sets d x) h = less_on b nothing h
  less_perform b (takes d x) h = less_on b reads h
  less_perform b (goes p) h = less_on b nothing h
  less_perform b (does x) h = less_ran b x (runs_on j s b (after (ran b x) k)) h (on_weight b (after (ran b x) k))
  less_perform b (begins l) h =
      let e = left_instruction j m.instructions m.choices h in
      let w = load_began l in
      omega arith

  less_closed : (x : Happening) → load t (after x k) ≤ load t k → Less time_phase (out (x ∷ []) (go_to (running main) m))
  unfolding kernel
  less_closed x h = omega arith

  less_branch : (c : Control) (o : Out) → Branch j s c o → 0 < weight t k c → Fits t k c → Less c o
  unfolding kernel after perform
  less_branch c o (B.obeys b p q) l f = less_perform b (effect_of j s b) (ltb-true m.instructions j.budget q)
  less_branch c o (B.unpaid b p q) l f = omega arith
  less_branch c o (B.main_ends q) l f = omega arith
  less_branch c o (B.thread_ends i q) l f =
      omega (arith, (evaluation_weight (any (runnable t (after (ended i) k)) (threads t))).1, load_ended t k i)
  less_branch c o (B.update_ends u q) l f =
      omega (arith, load_finished t k u (ltb-true u (updates t) (and_left (ltb u (updates t)) (k.requested u) f)) (and_right (ltb u (updates t)) (k.requested u) f))
  less_branch c o (B.idles q) l f = rw q (omega arith)
  less_branch c o (B.unchosen p q) l f = omega arith
  less_branch c o (B.refuses n p q r) l f = omega arith
  less_branch c o (B.dispatches n p q r) l f =
      let e = left_choice j m.instructions m.choices (nth_some j.choices m.choices n q) in
      omega arith
  less_branch c o (B.updated q) l f = omega arith
  less_branch c o (B.enters u q) l f = omega arith
  less_branch c o B.serves l f = omega (arith, load_served t k delta s.history refl refl refl)
  less_branch c o (B.turns q) l f = rw q (omega arith)
  less_branch c o (B.waits q) l f = omega arith
  less_branch c o (B.quiets q) l f = less_closed quiet (same_load quiet refl refl refl)
  less_branch c o (B.limits d p q) l f = less_closed limited (same_load limited refl refl refl)
  less_branch c o (B.moves d p q) l f = rw append_assoc (omega (arith, load_moved t k d (moved d ∷ s.history) refl refl refl p))
  less_branch c o (B.rests n b p) l f = absurd (omega arith)

pub falls : (j : Job) (s : State) → 0 < weight j.table (kernel s.history) s.machine.control → Fits j.table (kernel s.history) s.machine.control → remains_of j (step j s) < remains_of j s
unfolding step
falls j s l f = less_branch j s s.machine.control (step_from j s s.machine.control) (branch j s s.machine.control) l f
