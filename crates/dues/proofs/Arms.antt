-- What the arms of the code know of a due time, turned into what the contracts say. Assumes nothing.
use Prim.Native.Nat.{ℕ, zero, suc, ◌-◌, ◌≤◌, ◌<◌}
use mathlib.Core.Path.{◌≡◌, refl, ap}
use native.Mathlib.Nat.{not-suc-le-zero}
use native.Mathlib.Omega.{arith}
use lib.Dec.{eqb, leb, ltb}
use borrow.Author.Tests.{le-leb, lt-leb}
use Rattle.kernel.specs.Search.{none, found}
use Rattle.kernel.specs.Kernel.{at}
use Rattle.kernel.specs.Pending.{time_of, is_time}
use Rattle.dues.specs.Codes.{last_time, moment_of, pend_of}
use Rattle.dues.specs.Laws.{pend_low, pend_high, by_size}

-- a due time by its number
moment_time : (c : ℕ) → (c ≡ 0 → ⊥) → moment_of c ≡ at (c - 1)
unfolding moment_of
moment_time zero h = absurd (h refl)
moment_time (suc t) h = ap at (omega arith)

module _ (c : ℕ) where
  pub delta_time : c ≡ 0 → none ≡ time_of (pend_of c)
  unfolding pend_of moment_of
  delta_time h = rw h

  pub never_time : last_time < c → none ≡ time_of (pend_of c)
  never_time h = rw (pend_high c h)

  pub due_time : (c ≡ 0 → ⊥) → c ≤ last_time → found (c - 1) ≡ time_of (pend_of c)
  due_time h g = rw (pend_low c g, moment_time c h)

  pub time_flag : 0 < c → leb c last_time ≡ eqb (is_time (pend_of c)) 1
  time_flag g =
      by_size (leb c last_time ≡ eqb (is_time (pend_of c)) 1) last_time c
      (λ h. rw (le-leb c last_time h, pend_low c h, moment_time c (λ e. omega arith))) (λ h. rw (lt-leb c last_time h, pend_high c h))

pub no_flag : (c : ℕ) → c ≤ 0 → ltb 0 c ≡ eqb (is_time (pend_of c)) 1
unfolding pend_of moment_of
no_flag zero h = refl
no_flag (suc c) h = absurd (not-suc-le-zero h)
