-- One field of a thread, and what leaves it alone.
use mathlib.Core.Path.{◌≡◌, refl}
use mathlib.Core.Bool.{Bool, true, false, not, ◌&&◌}
use Rattle.std.specs.Prelude.{if◌then◌else◌}
use Rattle.kernel.specs.Kernel.{Thread, standing, suspending, asks_back}

pub if_same : {A : Type 0} (b : Bool) (x : A) → (if b then x else x) ≡ x
if_same true x = refl
if_same false x = refl

module _ {A : Type 0} (f : Thread → A) where
  pub field_at : (z : Bool) (s t : Thread) → f (if z then s else t) ≡ (if z then f s else f t)
  field_at true s t = refl
  field_at false s t = refl

  pub field_same : (z : Bool) (s t : Thread) → f s ≡ f t → f (if z then s else t) ≡ f t
  field_same true s t q = q
  field_same false s t q = refl

  pub keeps_suspend : (t : Thread) → f (standing true false t) ≡ f t → f (suspending t) ≡ f t
  keeps_suspend t q = go t.ended
    where
      go : (b : Bool) → f (if b then t else standing true false t) ≡ f t
      go true = refl
      go false = q

  pub keeps_back : (t : Thread) → f (standing t.suspended true t) ≡ f t → f (asks_back t) ≡ f t
  keeps_back t q = field_same (t.suspended && not t.ended) (standing t.suspended true t) t q
