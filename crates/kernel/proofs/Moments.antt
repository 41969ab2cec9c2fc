-- What holds at every moment of a history: time does not go back, and a thread that was freed waits for nothing.
use Prim.Native.Nat.{ℕ, ◌≤◌}
use mathlib.Core.Path.{◌≡◌, refl, ap, ◌∙◌, sym}
use mathlib.Core.Bool.{true, false, true≢false}
use mathlib.Core.List.{[], ◌∷◌, ◌++◌}
use native.Mathlib.Omega.{arith}
use Rattle.kernel.specs.Design.{Table, thread}
use Rattle.kernel.specs.Kernel.{Wait, free, on, till, waits, Happening, ran, triggered, freed, resumed, ended, dispatched, finished, began, moved, quiet, limited, History, after, kernel}
use Rattle.kernel.specs.Pending.{is_free}
use Rattle.kernel.specs.Words.{Moment, now, ago, clock, ends_wait, Waits, Unheld}
use Rattle.kernel.specs.Demand.{Might, Rightly}
use Rattle.kernel.proofs.Words.{WaitStep, wait_begins, wait_ends, wait_stays, wait_step, waits_on_lem}

pub moment_since : (a g : History) → Moment g (a ++ g)
moment_since [] g = now
moment_since (x ∷ a) g = ago (moment_since a g)

module _ (t : Table) where
  pub rightly_at : (g h : History) → Moment g h → Rightly t h → Rightly t g
  rightly_at g h now p = p
  rightly_at g h (ago {x = x} {h = r} m) p = rightly_at g r m p.2

  time_on : (x : Happening) (h : History) → Might t h x → (clock h).time ≤ (clock (x ∷ h)).time
  unfolding clock
  time_on (ran b x) h m = omega arith
  time_on (triggered e) h m = omega arith
  time_on (freed i) h m = omega arith
  time_on (resumed i) h m = omega arith
  time_on (ended i) h m = omega arith
  time_on (dispatched i) h m = omega arith
  time_on (finished u) h m = omega arith
  time_on (began l) h m = omega arith
  time_on (moved d) h m = omega (arith, m.0.later)
  time_on quiet h m = omega arith
  time_on limited h m = omega arith

  pub time_forth : (g h : History) → Moment g h → Rightly t h → (clock g).time ≤ (clock h).time
  time_forth g h now p = omega arith
  time_forth g h (ago {x = x} {h = r} m) p = omega (arith, time_forth g r m p.2, time_on x r p.1)

  -- a wait that begins ends none
  no_end : (i : ℕ) (w v : Wait) → ends_wait i w (ran (thread i) (waits v)) ≡ false
  no_end i free v = refl
  no_end i (on e) v = refl
  no_end i (till d) v = refl

  module _ (x : Happening) (g : History) (p : Rightly t (x ∷ g)) (i : ℕ) where
    free_then : (w : Wait) → is_free w ≡ false → Waits i w g → ends_wait i w x ≡ true → ((kernel (x ∷ g)).threads i).wait ≡ free
    unfolding kernel
    free_then w f a q = go ((after x (kernel g)).threads i).wait (wait_step x i (kernel g)) (waits_on_lem t i w f g p.2 a)
      where
        go : (v : Wait) → WaitStep i x ((kernel g).threads i).wait v → ((kernel g).threads i).wait ≡ w → v ≡ free
        go v (wait_begins u e) z = absurd (true≢false (sym q ∙ ap (ends_wait i w) e ∙ no_end i w u))
        go v (wait_ends e) z = refl
        go v (wait_stays e) z = absurd (true≢false (sym q ∙ rw z at e))

    unheld : ((kernel (x ∷ g)).threads i).wait ≡ free → Unheld i (x ∷ g)
    unheld f = record {
      no_event = λ e a. true≢false (ap is_free (sym f ∙ waits_on_lem t i (on e) refl (x ∷ g) p a));
      no_time = λ d a. true≢false (ap is_free (sym f ∙ waits_on_lem t i (till d) refl (x ∷ g) p a));
    }

    pub frees_at : (w : Wait) → Waits i w g → ends_wait i w x ≡ true → Unheld i (x ∷ g)
    frees_at free a q = absurd (true≢false (sym q))
    frees_at (on e) a q = unheld (free_then (on e) refl a q)
    frees_at (till d) a q = unheld (free_then (till d) refl a q)
