-- No second verdict and no other buffer fit the contracts of read and write. Assumes nothing.
use mathlib.Core.Path.{◌≡◌, sym, ap, ◌∙◌}
use mathlib.Core.List.{List}
use Prim.Native.Nat.{ℕ}
use Rattle.std.specs.Prelude.{Result}
use Rattle.image.specs.declared.Refusal.{Refusal}
use Rattle.image.specs.Judge.{said}
use Rattle.image.proofs.Unique.{one_verdict}
use Rattle.lines.specs.Text.{Outcome, outcome}

pub one_outcome : (o : Outcome) (a b : Result ℕ Refusal) (x y : List ℕ) → outcome (said a) x ≡ o → outcome (said b) y ≡ o → (a ≡ b) × (x ≡ y)
one_outcome o a b x y p q =
    (one_verdict o.says a b (ap (λ (r : Outcome). r.says) p) (ap (λ (r : Outcome). r.says) q), ap (λ (r : Outcome). r.buffer) (p ∙ sym q))
