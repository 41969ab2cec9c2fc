-- The kind of a body, each law as an arm of the code has it. Assumes nothing.
use Prim.Native.Nat.{ℕ, zero, suc, ◌-◌, ◌≤◌, ◌<◌}
use mathlib.Core.Path.{◌≡◌, refl}
use native.Mathlib.Omega.{arith}
use borrow.Author.Tests.{lt-ltb, le-ltb}
use Rattle.frame.specs.declared.Counts.{Counts}
use Rattle.frame.specs.declared.Kind.TheVariants.{Main, Thread, Update}
use Rattle.image.specs.Layout.{kind_of}

-- the kind of a body
module _ (c : Counts) where
  pub kind_main : (k : ℕ) → k ≡ 0 → Main ≡ kind_of c k
  unfolding kind_of
  kind_main k e = rw e

  pub kind_thread : (k : ℕ) → (k ≡ 0 → ⊥) → k - 1 < c.threads → Thread ≡ kind_of c k
  unfolding kind_of
  kind_thread zero h l = absurd (h refl)
  kind_thread (suc k) h l = rw (lt-ltb k c.threads (omega arith))

  pub kind_update : (k : ℕ) → (k ≡ 0 → ⊥) → c.threads ≤ k - 1 → Update ≡ kind_of c k
  unfolding kind_of
  kind_update zero h l = absurd (h refl)
  kind_update (suc k) h l = rw (le-ltb k c.threads (omega arith))

pub ruleset kind_laws = (kind_main, kind_thread, kind_update)
