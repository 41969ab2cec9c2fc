-- What is due is served exactly when it is due; and what a step adds to the history.
use Prim.Native.Nat.{ℕ, zero, suc, ◌<◌}
use mathlib.Core.Path.{◌≡◌, refl, ap, ◌∙◌, sym, subst}
use mathlib.Core.Bool.{Bool, true, false, true≢false}
use mathlib.Core.Logic.{◌⊎◌, inl, inr, ◌↔◌}
use mathlib.Core.List.{[], ◌∷◌, ◌++◌}
use native.Mathlib.Omega.{arith}
use Rattle.kernel.specs.Search.{add_if, each}
use Rattle.kernel.specs.Design.{Table, Body, threads, events}
use Rattle.kernel.specs.Kernel.{Due, never, delta, at, Kernel, nothing, reads, Happening, ran, triggered, freed, resumed, ended, dispatched, finished, began, moved, quiet, limited, History, kernel}
use Rattle.kernel.specs.Pending.{due_of, resume_due, same_due, served}
use Rattle.kernel.specs.Effect.{Effect, stops, sets, takes, goes, does, begins}
use Rattle.kernel.specs.Machine.{Job, Control, running, delta_phase, time_phase, State, Out}
use Rattle.kernel.specs.Step.{perform, effect_of, move_to, step_from}
use Rattle.kernel.specs.Words.{sign, Among, newest, older, Work, event, wait, resume, Within, DueAt, serves}
use Rattle.kernel.specs.Demand.{Rightly, added, Coming, in_phase, with_time}
use Rattle.kernel.proofs.Search.{last}
use Rattle.kernel.proofs.Branch as B
use Rattle.kernel.proofs.Branch.{Branch, branch}
use Rattle.kernel.proofs.Served.{same_eq}
use Rattle.kernel.proofs.Due.{due_in, delta_never, at_never, due_in_lem, in_due, same_self}

-- Among ----------------------------------------------------------------------------------------------------------

module _ (y : Happening) where
  among_left : (a b : History) → Among y a → Among y (a ++ b)
  among_left [] b m = elim m [ ]
  among_left (x ∷ a) b newest = newest
  among_left (x ∷ a) b (older m) = older (among_left a b m)

  pub among_right : (a b : History) → Among y b → Among y (a ++ b)
  among_right [] b m = m
  among_right (x ∷ a) b m = older (among_right a b m)

  among_split : (a b : History) → Among y (a ++ b) → Among y a ⊎ Among y b
  among_split [] b m = inr m
  among_split (x ∷ a) b newest = inl newest
  among_split (x ∷ a) b (older m) = go (among_split a b m)
    where
      go : Among y a ⊎ Among y b → Among y (x ∷ a) ⊎ Among y b
      go (inl l) = inl (older l)
      go (inr r) = inr r

  among_head : (x : Happening) (h : History) → Among y (x ∷ h) → (y ≡ x) ⊎ Among y h
  among_head x h newest = inl refl
  among_head x h (older m) = inr m

  among_one : (x : Happening) → Among y (x ∷ []) → y ≡ x
  among_one x newest = refl
  among_one x (older m) = elim m [ ]

module _ (p : ℕ → Bool) (f : ℕ → Happening) where
  among_each : (y : Happening) (n : ℕ) → Among y (each p f n) → (i : ℕ) × (i < n) × (p i ≡ true) × (y ≡ f i)
  unfolding each
  among_each y zero m = elim m [ ]
  among_each y (suc n) m = go (p n) refl m (among_each y n)
    where
      more : (i : ℕ) × (i < n) × (p i ≡ true) × (y ≡ f i) → (i : ℕ) × (i < suc n) × (p i ≡ true) × (y ≡ f i)
      more w = (w.0, omega (arith, w.1), w.2, w.3)

      go : (b : Bool) → p n ≡ b → Among y (add_if b (f n) (each p f n)) → (Among y (each p f n) → (i : ℕ) × (i < n) × (p i ≡ true) × (y ≡ f i))
          → (i : ℕ) × (i < suc n) × (p i ≡ true) × (y ≡ f i)
      go true q m r = by (among_head y (f n) (each p f n) m)
        where
          by : (y ≡ f n) ⊎ Among y (each p f n) → (i : ℕ) × (i < suc n) × (p i ≡ true) × (y ≡ f i)
          by (inl e) = (n, omega arith, q, e)
          by (inr o) = more (r o)
      go false q m r = more (r m)

  each_among : (n i : ℕ) → i < n → p i ≡ true → Among (f i) (each p f n)
  unfolding each
  each_among zero i l q = absurd (omega arith)
  each_among (suc n) i l q = go (last i n l) (each_among n i)
    where
      put : (b : Bool) (x : Happening) → Among (f i) (each p f n) → Among (f i) (add_if b x (each p f n))
      put true x m = older m
      put false x m = m

      go : (i ≡ n) ⊎ (i < n) → (i < n → p i ≡ true → Among (f i) (each p f n)) → Among (f i) (add_if (p n) (f n) (each p f n))
      go (inl e) r = rw (← e, q) newest
      go (inr h) r = put (p n) (f n) (r h q)

-- What serves which work -----------------------------------------------------------------------------------------

abbrev work_of : Happening → Work
work_of (triggered e) = event e
work_of (freed i) = wait i
work_of (resumed i) = resume i
work_of (ran b x) = event 0
work_of (ended i) = event 0
work_of (dispatched i) = event 0
work_of (finished u) = event 0
work_of (began l) = event 0
work_of (moved t) = event 0
work_of quiet = event 0
work_of limited = event 0

work_of_lem : (x : Work) → work_of (serves x) ≡ x
work_of_lem (event e) = refl
work_of_lem (wait i) = refl
work_of_lem (resume i) = refl

serves_one : (x z : Work) → serves x ≡ serves z → x ≡ z
serves_one x z e = sym (work_of_lem x) ∙ ap work_of e ∙ work_of_lem z

-- served, or a move of time
abbrev loud : Happening → Bool
loud (triggered e) = true
loud (freed i) = true
loud (resumed i) = true
loud (moved t) = true
loud (ran b x) = false
loud (ended i) = false
loud (dispatched i) = false
loud (finished u) = false
loud (began l) = false
loud quiet = false
loud limited = false

work_loud : (x : Work) → loud (serves x) ≡ true
work_loud (event e) = refl
work_loud (wait i) = refl
work_loud (resume i) = refl

-- what is loud is not all alone something else
not_alone : (x y : Happening) → loud x ≡ true → loud y ≡ false → Among x (y ∷ []) → ⊥
not_alone x y p q m = true≢false (sym p ∙ ap loud (among_one x y m) ∙ q)

no_served : (d : ℕ) (x : Work) → moved d ≡ serves x → ⊥
no_served d (event e) q = let z : ◌≡◌ {A = ℕ} 14 7 = ap (λ (x : Happening). (sign x).0) q in omega arith
no_served d (wait i) q = let z : ◌≡◌ {A = ℕ} 14 8 = ap (λ (x : Happening). (sign x).0) q in omega arith
no_served d (resume i) q = let z : ◌≡◌ {A = ℕ} 14 9 = ap (λ (x : Happening). (sign x).0) q in omega arith

-- What is served -------------------------------------------------------------------------------------------------

module _ (t : Table) (k : Kernel) (d : Due) where
  abbrev resuming : History
  resuming = each (λ i. same_due (resume_due (k.threads i).resuming) d) resumed (threads t)

  abbrev freeing : History
  freeing = each (λ i. same_due (due_of (k.threads i).wait) d) freed (threads t)

  abbrev triggering : History
  triggering = each (λ e. same_due (k.pends e) d) triggered (events t)

  abbrev DueNow : Happening → Type 0
  DueNow y = (x : Work) × (Within t x) × (due_in k x ≡ d) × (y ≡ serves x)

  among_served : (y : Happening) → Among y (served t k d) → DueNow y
  unfolding served
  among_served y m = go (among_split y resuming (freeing ++ triggering) m)
    where
      rest : Among y freeing ⊎ Among y triggering → DueNow y
      rest (inl f) = let w = among_each _ _ y (threads t) f in (wait w.0, w.1, same_eq (due_in k (wait w.0)) d w.2, w.3)
      rest (inr r) = let w = among_each _ _ y (events t) r in (event w.0, w.1, same_eq (due_in k (event w.0)) d w.2, w.3)

      go : Among y resuming ⊎ Among y (freeing ++ triggering) → DueNow y
      go (inl r) = let w = among_each _ _ y (threads t) r in (resume w.0, w.1, same_eq (due_in k (resume w.0)) d w.2, w.3)
      go (inr r) = rest (among_split y freeing triggering r)

  module _ (n : d ≡ never → ⊥) where
    served_among : (x : Work) → Within t x → same_due (due_in k x) d ≡ true → Among (serves x) (served t k d)
    unfolding served
    served_among (event e) l q = among_right _ resuming (freeing ++ triggering) (among_right _ freeing triggering (each_among _ _ (events t) e l q))
    served_among (wait i) l q = among_right _ resuming (freeing ++ triggering) (among_left _ freeing triggering (each_among _ _ (threads t) i l q))
    served_among (resume i) l q = among_left _ resuming (freeing ++ triggering) (each_among _ _ (threads t) i l q)

serves_due : (t : Table) (h : History) (d : Due) → (d ≡ never → ⊥) → Rightly t h → (x : Work) → ((Within t x) × (DueAt h x d)) ↔ Among (serves x) (served t (kernel h) d)
serves_due t h d n p x = (to, from)
  where
    to : (Within t x) × (DueAt h x d) → Among (serves x) (served t (kernel h) d)
    to w = served_among t (kernel h) d n x w.0 (rw (due_in_lem t h p x d w.1) (same_self d n))

    from : Among (serves x) (served t (kernel h) d) → (Within t x) × (DueAt h x d)
    from m =
        let w = among_served t (kernel h) d (serves x) m in
        let e : x ≡ w.0 = serves_one x w.0 w.3 in
        rw e (w.1, in_due h w.0 d n w.2)

-- What a step adds -----------------------------------------------------------------------------------------------

module _ (j : Job) (s : State) where
  abbrev t : Table
  t = j.table

  abbrev h : History
  h = s.history

  -- nothing; one happening that is not loud; what is due in the delta phase; what a move of time makes
  data Adds : Control → History → Type 0 where
    adds_none : {c : Control} → Adds c []
    adds_one : {c : Control} (x : Happening) → loud x ≡ false → Adds c (x ∷ [])
    adds_delta : Adds delta_phase (served t (kernel h) delta)
    adds_move : (d : ℕ) → Adds time_phase (move_to j s d).happens

  perform_adds : (c : Control) (b : Body) (x : Effect) → Adds c (perform j s b x).happens
  unfolding perform
  perform_adds c b (stops n) = adds_none
  perform_adds c b (sets d x) = adds_one (ran b nothing) refl
  perform_adds c b (takes d x) = adds_one (ran b reads) refl
  perform_adds c b (goes p) = adds_one (ran b nothing) refl
  perform_adds c b (does x) = adds_one (ran b x) refl
  perform_adds c b (begins l) = adds_one (began l) refl

  branch_adds : (c : Control) (o : Out) → Branch j s c o → Adds c o.happens
  branch_adds c o (B.obeys b p q) = perform_adds (running b) b (effect_of j s b)
  branch_adds c o (B.unpaid b p q) = perform_adds (running b) b (stops 22)
  branch_adds c o (B.main_ends q) = adds_none
  branch_adds c o (B.thread_ends i q) = adds_one (ended i) refl
  branch_adds c o (B.update_ends u q) = adds_one (finished u) refl
  branch_adds c o (B.idles q) = adds_none
  branch_adds c o (B.unchosen p q) = adds_none
  branch_adds c o (B.refuses n p q r) = adds_none
  branch_adds c o (B.dispatches n p q r) = adds_one (dispatched n) refl
  branch_adds c o (B.updated q) = adds_none
  branch_adds c o (B.enters u q) = adds_none
  branch_adds c o B.serves = adds_delta
  branch_adds c o (B.turns q) = adds_none
  branch_adds c o (B.waits q) = adds_none
  branch_adds c o (B.quiets q) = adds_one quiet refl
  branch_adds c o (B.limits d p q) = adds_one limited refl
  branch_adds c o (B.moves d p q) = adds_move d
  branch_adds c o (B.rests n b p) = adds_none

  step_adds : Adds s.machine.control (added j s)
  step_adds = branch_adds s.machine.control (step_from j s s.machine.control) (branch j s s.machine.control)

  -- only the time phase moves time, and so
  moved_only : (d : ℕ) (c : Control) (a : History) → Adds c a → Among (moved d) a → a ≡ (move_to j s d).happens
  moved_only d c a adds_none m = elim m [ ]
  moved_only d c a (adds_one x q) m = absurd (not_alone (moved d) x refl q m)
  moved_only d c a adds_delta m = let w = among_served t (kernel h) delta (moved d) m in absurd (no_served d w.0 w.3)
  moved_only d c a (adds_move v) m = go (among_split (moved d) (served t (kernel h) (at v)) (moved v ∷ []) m)
    where
      go : Among (moved d) (served t (kernel h) (at v)) ⊎ Among (moved d) (moved v ∷ []) → (move_to j s v).happens ≡ (move_to j s d).happens
      go (inl y) = let w = among_served t (kernel h) (at v) (moved d) y in absurd (no_served d w.0 w.3)
      go (inr y) = let z : d ≡ v = ap (λ (x : Happening). (sign x).1) (among_one (moved d) (moved v) y) in rw z

  pub moved_as : (d : ℕ) → Among (moved d) (added j s) → added j s ≡ (move_to j s d).happens
  moved_as d m = moved_only d s.machine.control (added j s) step_adds m

  -- what is due is served exactly when it comes
  module _ (p : Rightly t h) (x : Work) where
    abbrev ComesDue : Type 0
    ComesDue = (Within t x) × ((d : Due) × (Coming j s d) × (DueAt h x d))

    serves_all : (d : Due) → Coming j s d → (Within t x) × (DueAt h x d) → Among (serves x) (added j s)
    unfolding step_from
    serves_all d (in_phase e) w = rw e ((serves_due t h delta delta_never p x).0 w)
    serves_all d (with_time v m) w = rw (moved_as v m) (among_left (serves x) (served t (kernel h) (at v)) (moved v ∷ []) ((serves_due t h (at v) (at_never v) p x).0 w))

    serves_only : (c : Control) (a : History) → Adds c a → s.machine.control ≡ c → added j s ≡ a → Among (serves x) a → ComesDue
    serves_only c a adds_none e q m = elim m [ ]
    serves_only c a (adds_one y l) e q m = absurd (not_alone (serves x) y (work_loud x) l m)
    serves_only c a adds_delta e q m = let w = (serves_due t h delta delta_never p x).1 m in (w.0, (delta, in_phase e, w.1))
    serves_only c a (adds_move v) e q m = go (among_split (serves x) (served t (kernel h) (at v)) (moved v ∷ []) m)
      where
        comes : Coming j s (at v)
        comes = with_time v (subst (Among (moved v)) (sym q) (among_right (moved v) (served t (kernel h) (at v)) (moved v ∷ []) newest))

        go : Among (serves x) (served t (kernel h) (at v)) ⊎ Among (serves x) (moved v ∷ []) → ComesDue
        go (inl y) = let w = (serves_due t h (at v) (at_never v) p x).1 y in (w.0, (at v, comes, w.1))
        go (inr y) = absurd (no_served v x (sym (among_one (serves x) (moved v) y)))

    pub serves_when : ComesDue ↔ Among (serves x) (added j s)
    serves_when = ((λ w. serves_all w.1.0 w.1.1 (w.0, w.1.2)), serves_only s.machine.control (added j s) step_adds refl refl)
