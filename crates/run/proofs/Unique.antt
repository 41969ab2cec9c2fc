-- No second answer fits the contract of the run. Assumes nothing.
use Prim.Native.Nat.{ℕ}
use mathlib.Core.Path.{◌≡◌, sym, ap, ◌∙◌}
use mathlib.Core.List.{List}
use Rattle.kernel.specs.Run.{Outcome}
use Rattle.answer.specs.declared.Answer.{Answer}
use Rattle.answer.specs.Answer.{said}
use Rattle.answer.proofs.Unique.{one_told}

pub one_run : (o : Outcome) (a b : Answer) (x y : List ℕ) → record { answer = said a; cells = x } ≡ o → record { answer = said b; cells = y } ≡ o → (a ≡ b) × (x ≡ y)
one_run o a b x y e f =
    (one_told o.answer a b (ap (λ (z : Outcome). z.answer) e) (ap (λ (z : Outcome). z.answer) f), ap (λ (z : Outcome). z.cells) (e ∙ sym f))
