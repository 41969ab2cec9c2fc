-- No second answer fits the contracts of the delta phase and of time: what is lent comes back in one way. Assumes nothing.
use Prim.Native.Nat.{ℕ}
use mathlib.Core.Path.{◌≡◌, sym, ap, ◌∙◌}
use mathlib.Core.List.{List}
use Rattle.shows.specs.Shows.{Lists, lists}

pub one_lent : (o : Lists) (p q v w e f : List ℕ) → lists p v e ≡ o → lists q w f ≡ o → (p ≡ q) × (v ≡ w) × (e ≡ f)
one_lent o p q v w e f x y =
    (ap (λ (l : Lists). l.pends) (x ∙ sym y), ap (λ (l : Lists). l.waits) (x ∙ sym y), ap (λ (l : Lists). l.waiters) (x ∙ sym y))
