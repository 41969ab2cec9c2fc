-- No second count and no other buffer fit a contract that says what is written. Assumes nothing.
use Prim.Native.Nat.{ℕ}
use Rattle.std.specs.Prelude.{Option}
use mathlib.Core.Path.{◌≡◌, sym, ap, ◌∙◌}
use mathlib.Core.List.{List}
use Rattle.program.specs.Whole.{Written, wrote}

pub one_written : (o : Written) (m n : Option ℕ) (x y : List ℕ) → wrote m x ≡ o → wrote n y ≡ o → (m ≡ n) × (x ≡ y)
one_written o m n x y p q = (ap (λ (w : Written). w.count) (p ∙ sym q), ap (λ (w : Written). w.bytes) (p ∙ sym q))
