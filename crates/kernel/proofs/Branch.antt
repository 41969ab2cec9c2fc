-- The branches of a step: what each does, and the tests that lead to it. A fact about every step is shown branch by branch.
use Prim.Native.Nat.{ℕ}
use mathlib.Core.Path.{◌≡◌, refl}
use mathlib.Core.Bool.{Bool, true, false}
use mathlib.Core.List.{[], ◌∷◌}
use Rattle.kernel.specs.Search.{Found, none, found, nth, first}
use Rattle.kernel.specs.Design.{Table, Body, main, thread, update, updates}
use Rattle.kernel.specs.Kernel.{delta, Kernel, ended, finished, quiet, limited, kernel}
use Rattle.kernel.specs.Pending.{runnable, is_requested, least_time, above, served}
use Rattle.kernel.specs.Effect.{stops}
use Rattle.kernel.specs.Machine.{Job, Control, running, update_phase, delta_phase, turn, evaluation, time_phase, over, State, Out, out, when◌then◌else◌, given◌or_else◌take◌, go_to}
use Rattle.kernel.specs.Step.{to, ends, due, paid, perform, effect_of, phase_number, at_end, some_runnable, dispatch, enter, closes, time_next, move_to, step_from}

module _ (j : Job) (s : State) where
  abbrev t : Table
  t = j.table

  abbrev k : Kernel
  k = kernel s.history

  abbrev choice : Found
  choice = nth j.choices s.machine.choices

  pub data Branch : Control → Out → Type 0 where
    -- a body runs
    obeys : (b : Body) → due j s b ≡ true → paid j s ≡ true → Branch (running b) (perform j s b (effect_of j s b))
    unpaid : (b : Body) → due j s b ≡ true → paid j s ≡ false → Branch (running b) (perform j s b (stops 22))
    main_ends : due j s main ≡ false → Branch (running main) (ends j s (phase_number j s k.stage))
    thread_ends : (i : ℕ) → due j s (thread i) ≡ false → Branch (running (thread i)) (out (ended i ∷ []) (go_to evaluation s.machine))
    update_ends : (u : ℕ) → due j s (update u) ≡ false → Branch (running (update u)) (out (finished u ∷ []) (go_to update_phase s.machine))
    -- evaluation
    idles : some_runnable j s ≡ false → Branch evaluation (to j s update_phase)
    unchosen : some_runnable j s ≡ true → choice ≡ none → Branch evaluation (ends j s 20)
    refuses : (c : ℕ) → some_runnable j s ≡ true → choice ≡ found c → runnable t k c ≡ false → Branch evaluation (ends j s 21)
    dispatches : (c : ℕ) → some_runnable j s ≡ true → choice ≡ found c → runnable t k c ≡ true → Branch evaluation (dispatch j s c)
    -- the update phase, the delta phase, and the turn to evaluation or time
    updated : first (is_requested t k) (updates t) ≡ none → Branch update_phase (to j s delta_phase)
    enters : (u : ℕ) → first (is_requested t k) (updates t) ≡ found u → Branch update_phase (enter j s u)
    serves : Branch delta_phase (out (served t k delta) (go_to turn s.machine))
    turns : some_runnable j s ≡ true → Branch turn (to j s evaluation)
    waits : some_runnable j s ≡ false → Branch turn (time_next j s)
    -- time
    quiets : least_time t k ≡ none → Branch time_phase (closes j s quiet)
    limits : (d : ℕ) → least_time t k ≡ found d → above d k.limit ≡ true → Branch time_phase (closes j s limited)
    moves : (d : ℕ) → least_time t k ≡ found d → above d k.limit ≡ false → Branch time_phase (move_to j s d)
    -- over
    rests : (n b p : ℕ) → Branch (over n b p) (to j s (over n b p))

  by_when : (c : Control) (b : Bool) (x y : Out) → (b ≡ true → Branch c x) → (b ≡ false → Branch c y) → Branch c (when b then x else y)
  unfolding when◌then◌else◌
  by_when c true x y f g = f refl
  by_when c false x y f g = g refl

  by_given : (c : Control) (f : Found) (x : Out) (g : ℕ → Out) → (f ≡ none → Branch c x) → ((n : ℕ) → f ≡ found n → Branch c (g n)) → Branch c (given f or_else x take g)
  unfolding given◌or_else◌take◌
  by_given c none x g p q = p refl
  by_given c (found n) x g p q = q n refl

  at_end_lem : (b : Body) → due j s b ≡ false → Branch (running b) (at_end j s b)
  unfolding at_end
  at_end_lem main q = main_ends q
  at_end_lem (thread i) q = thread_ends i q
  at_end_lem (update u) q = update_ends u q

  pub branch : (c : Control) → Branch c (step_from j s c)
  unfolding step_from
  branch (running b) = by_when (running b) _ _ _ (λ p. by_when (running b) _ _ _ (obeys b p) (unpaid b p)) (at_end_lem b)
  branch evaluation =
      by_when evaluation _ _ _
      (λ p. by_given evaluation _ _ _ (unchosen p) (λ c q. by_when evaluation _ _ _ (dispatches c p q) (refuses c p q)))
      idles
  branch update_phase = by_given update_phase _ _ _ updated enters
  branch delta_phase = serves
  branch turn = by_when turn _ _ _ turns waits
  branch time_phase = by_given time_phase _ _ _ quiets (λ d q. by_when time_phase _ _ _ (limits d q) (moves d q))
  branch (over n b p) = rests n b p
