-- What the test of two signed operands tells of their quotient. Assumes nothing.
use mathlib.Core.Path.{◌≡◌, refl, sym, ap, ◌∙◌}
use mathlib.Core.Bool.{Bool, true, false, not}
use mathlib.Core.Logic.{◌⊎◌, ⊎_elim}
use Prim.Native.Nat.{ℕ, ◌^◌, ◌<◌}
use borrow.Author.Tests.{eqb-true, eqb-false}
use lib.Dec.{eqb}
use lib.IntN.{ℤ, negsuc}
use lib.Signed.{mag, quot_z}
use mir.Syntax.{w32}
use mir.Val.{to_z, of_z, SFits}
use mir.ValLaws.{to_z-of_z}
use Rattle.word.specs.Word.{in_range}
use Rattle.word.specs.TwosComplement.{in_range_lem, out_of_range}
use Rattle.word.specs.Division.{quotient_in, quotient_out}

-- an i32 is told by its bits
pub told : (z : ℤ) → SFits w32 z → (n : ℕ) → of_z w32 z ≡ n → z ≡ to_z w32 n
told z f n e = sym (to_z-of_z w32 z f) ∙ ap (to_z w32) e

-- the check of a quotient: the dividend is not the least number, or it is and the divisor decides
module _ (a b : ℤ) (fa : SFits w32 a) (fb : SFits w32 b) where
  cases : (mag (quot_z a b) < 2 ^ 31) ⊎ ((a ≡ negsuc 0x7fffffff) × (b ≡ negsuc 0))
  cases = quotient_in (2 ^ 31) a b fa.sfits

  pub not_least : (of_z w32 a ≡ 0x80000000 → ⊥) → true ≡ in_range 32 (quot_z a b)
  not_least n = ⊎_elim (λ h. sym (in_range_lem 32 (quot_z a b) h)) (λ l. absurd (n (ap (of_z w32) l.0))) cases

  pub least : of_z w32 a ≡ 0x80000000 → not (eqb (of_z w32 b) 0xffffffff) ≡ in_range 32 (quot_z a b)
  least e = go (eqb (of_z w32 b) 0xffffffff) refl
    where
      go : (t : Bool) → eqb (of_z w32 b) 0xffffffff ≡ t → not t ≡ in_range 32 (quot_z a b)
      go true g =
          sym (out_of_range 32 (quot_z a b) (quotient_out (2 ^ 31) a b (told a fa _ e) (told b fb _ (eqb-true _ _ g))))
      go false g =
          ⊎_elim (λ h. sym (in_range_lem 32 (quot_z a b) h)) (λ l. absurd (eqb-false _ _ g (ap (of_z w32) l.1))) cases
