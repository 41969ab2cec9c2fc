-- 17 and 23 are given exactly when, and in their order.
use Prim.Native.Nat.{ℕ, ◌≤◌}
use mathlib.Core.Path.{◌≡◌, refl, sym}
use mathlib.Core.Bool.{Bool, true, false, ◌&&◌}
use mathlib.Core.Logic.{◌⊎◌, inl, inr}
use native.Mathlib.Omega.{arith}
use lib.Dec.{ltb, leb}
use borrow.Author.Tests.{ltb-true, ltb-false, lt-ltb, le-ltb, leb-true, le-leb}
use Rattle.kernel.specs.Kernel.{at, Deed}
use Rattle.kernel.specs.Effect.{Effect, stops, does, stop_if, last_time, asks_for}
use Rattle.kernel.specs.Asking.{Asking}
use Rattle.kernel.specs.Demand.{is_stop}

two_numbers : {A : Type 0} → stops 17 ≡ stops 23 → A
two_numbers e = let z : ◌≡◌ {A = ℕ} 17 23 = cc in absurd (omega arith)

no_stop : {A : Type 0} (n : ℕ) (x : Deed) → does x ≡ stops n → A
no_stop n x e = let z : ◌≡◌ {A = ℕ} 0 1 = cc in absurd (omega arith)

module _ (x : Deed) where
  -- the time is too late; one is to be added, and 48 stand
  abbrev comes : Bool → Bool → Bool → Effect
  comes late adds full = stop_if late 17 (stop_if (adds && full) 23 (does x))

  late_only : (l a b : Bool) → comes l a b ≡ stops 17 → l ≡ true
  late_only true a b e = refl
  late_only false true true e = two_numbers (sym e)
  late_only false true false e = no_stop 17 x e
  late_only false false b e = no_stop 17 x e

  full_only : (l a b : Bool) → comes l a b ≡ stops 23 → (l ≡ false) × (a ≡ true) × (b ≡ true)
  full_only true a b e = two_numbers e
  full_only false true true e = (refl, refl, refl)
  full_only false true false e = no_stop 23 x e
  full_only false false b e = no_stop 23 x e

pub asking : (adds : Bool) (n t : ℕ) (x : Deed) → Asking adds n t x
asking adds n t x = record {
  too_late = ((λ h. rw (lt-ltb last_time t h)), (λ e. ltb-true last_time t (late_only x (ltb last_time t) adds (leb 48 n) e)));
  too_many = (
    (λ h. rw (le-ltb last_time t h.0, h.1, le-leb 48 n h.2)),
    (λ e. let w = full_only x (ltb last_time t) adds (leb 48 n) e in (omega (arith, ltb-false last_time t w.0), w.1, leb-true 48 n w.2)),
  );
}

-- the instruction asks, for a time that is not past the last, or the run stops
pub asks_or_stops : (adds : Bool) (n t : ℕ) (x : Deed) → ((t ≤ last_time) × (asks_for adds n (at t) x ≡ does x)) ⊎ ((v : ℕ) × (is_stop v ≡ true) × (asks_for adds n (at t) x ≡ stops v))
asks_or_stops adds n t x = go (ltb last_time t) (adds && leb 48 n) refl
  where
    go : (l f : Bool) → ltb last_time t ≡ l → ((t ≤ last_time) × (stop_if l 17 (stop_if f 23 (does x)) ≡ does x)) ⊎ ((v : ℕ) × (is_stop v ≡ true) × (stop_if l 17 (stop_if f 23 (does x)) ≡ stops v))
    go true f q = inr (17, refl, refl)
    go false true q = inr (23, refl, refl)
    go false false q = inl (ltb-false last_time t q, refl)
