-- What the three functions say fits the C struct, and what they hand on is what was said. Assumes nothing.
use Prim.Native.Nat.{ℕ, ◌*◌, ◌≤◌}
use mathlib.Core.Path.{◌≡◌, refl, ap}
use mathlib.Core.Bool.{Bool, true, false}
use mathlib.Core.List.{List}
use native.Mathlib.Omega.{arith}
use borrow.Author.Tests.{eqb-true}
use lib.Dec.{eqb, ltb}
use lib.ListN.{length}
use Rattle.std.specs.Prelude.{Result, if◌then◌else◌}
use Rattle.laws.specs.Lists.{over}
use Rattle.image.specs.declared.Refusal.{Refusal}
use Rattle.image.specs.Limits.{most_lines}
use Rattle.image.specs.Judge.{Said, say, said, judged}
use Rattle.image.proofs.Accepted.{accepted_has, few_lines}
use Rattle.lines.specs.Text.{Outcome, outcome, reading, text, writing}
use Rattle.lines.proofs.Few.{read_few}
use Rattle.fishdavit.specs.Plain.{Small}

module _ (v : Result ℕ Refusal) where
  pub judge_small : (fs : List ℕ) → said v ≡ judged fs → Small (said v)
  judge_small fs e = omega (arith, ap (λ (s : Said). s.line) e, few_lines fs)

  pub read_small : (bs table left : List ℕ) → outcome (said v) left ≡ reading bs table → Small (said v)
  read_small bs table left e = omega (arith, ap (λ (o : Outcome). o.says.line) e, read_few bs table)

  by_tests : (fs bytes : List ℕ) (g r : Bool) → eqb (judged fs).number 0 ≡ g → (if g then (if r then outcome (say 8 0) bytes else outcome (say 0 (17 * length fs)) (over (text fs) bytes)) else outcome (judged fs) bytes).says.line ≤ 17 * most_lines
  by_tests fs bytes true true p = omega arith
  by_tests fs bytes true false p =
      omega (arith, (accepted_has fs (eqb-true (judged fs).number 0 p)).count, few_lines fs)
  by_tests fs bytes false r p = omega (arith, few_lines fs)

  write_few : (fs bytes : List ℕ) → (writing fs bytes).says.line ≤ 17 * most_lines
  unfolding writing
  write_few fs bytes = by_tests fs bytes (eqb (judged fs).number 0) (ltb (length bytes) (17 * length fs)) refl

  pub write_small : (fs bytes left : List ℕ) → outcome (said v) left ≡ writing fs bytes → Small (said v)
  write_small fs bytes left e = omega (arith, ap (λ (o : Outcome). o.says.line) e, write_few fs bytes)

pub ruleset small_laws = (judge_small, read_small, write_small)

-- the struct's numbers, and the buffer beside them
pub same_outcome : (s t : Said) (l : List ℕ) (o : Outcome) → outcome t l ≡ o → s ≡ t → outcome s l ≡ o
same_outcome s t l o e p = rw p e
