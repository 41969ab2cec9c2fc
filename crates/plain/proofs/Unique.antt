-- No second answer fits the contract of the loop over plain instructions: how it ends and the cells are one. Assumes nothing.
use Prim.Native.Nat.{ℕ}
use mathlib.Core.Path.{◌≡◌, sym, ap, ◌∙◌}
use mathlib.Core.List.{List}
use Rattle.plain.specs.declared.Ran.{Ran}
use Rattle.plain.specs.Plain.{Out}

pub one_ran : (o : Out) (r s : Ran) (x y : List ℕ) → record { ran = r; cells = x } ≡ o → record { ran = s; cells = y } ≡ o → (r ≡ s) × (x ≡ y)
one_ran o r s x y p q = (ap (λ (u : Out). u.ran) (p ∙ sym q), ap (λ (u : Out). u.cells) (p ∙ sym q))
