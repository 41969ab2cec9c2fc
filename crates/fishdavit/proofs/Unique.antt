-- No second answer fits a contract of the C functions that give a verdict: the struct is what it says, and the buffer stands beside it. Of
-- the run that is `one_run` of `run`. Assumes nothing.
use mathlib.Core.Path.{◌≡◌, refl, sym, ap, ◌∙◌}
use mathlib.Core.List.{List}
use Prim.Native.Nat.{ℕ}
use Rattle.laws.specs.Unique.{one_answer}
use Rattle.image.specs.Judge.{Said}
use Rattle.lines.specs.Text.{Outcome, outcome}
use Rattle.fishdavit.specs.declared.FishdavitVerdict.{FishdavitVerdict}
use Rattle.fishdavit.specs.Plain.{plain}

abbrev struct : Said → FishdavitVerdict
struct s = record { number = s.number; line = s.line }

pub one_struct : (s : Said) (a b : FishdavitVerdict) → plain a ≡ s → plain b ≡ s → a ≡ b
one_struct = one_answer plain struct (λ a. refl)

pub one_outcome : (o : Outcome) (a b : FishdavitVerdict) (x y : List ℕ) → outcome (plain a) x ≡ o → outcome (plain b) y ≡ o → (a ≡ b) × (x ≡ y)
one_outcome o a b x y p q =
    (one_struct o.says a b (ap (λ (r : Outcome). r.says) p) (ap (λ (r : Outcome). r.says) q), ap (λ (r : Outcome). r.buffer) (p ∙ sym q))
