-- No second answer fits the contract of a body's turn, nor of the machine's turns. Assumes nothing.
use Prim.Native.Nat.{ℕ}
use mathlib.Core.Path.{◌≡◌, sym, ap, ◌∙◌}
use mathlib.Core.List.{List}
use Rattle.shows.specs.Shows.{Lists}
use Rattle.turns.specs.declared.Now.{Now}
use Rattle.turns.specs.Code.{Code, code}

pub one_state : (o : Code) (n m : Now) (l k : Lists) (p q x y : List ℕ) → code n l p x ≡ o → code m k q y ≡ o → (n ≡ m) × (l ≡ k) × (p ≡ q) × (x ≡ y)
one_state o n m l k p q x y e f =
    (ap (λ (c : Code). c.now) (e ∙ sym f), ap (λ (c : Code). c.lists) (e ∙ sym f), ap (λ (c : Code). c.places) (e ∙ sym f), ap (λ (c : Code). c.cells) (e ∙ sym f))
