-- Laws of the parts, as the code's returns have them. Assumes nothing.
use Prim.Native.Nat.{ℕ, ◌^◌, ◌<◌, ◌≤◌}
use mathlib.Core.Path.{◌≡◌, ap, ◌∙◌}
use lib.IntN.{ℤ}
use lib.Signed.{mag}
use native.Mathlib.Omega.{arith}
use mir.Syntax.{w32, w64}
use mir.Val.{to_z, of_z, Fits, SFits}
use mir.ValLaws.{to_z-of_z}
use Rattle.word.specs.Word.{signed, narrow, bits_of}
use Rattle.word.specs.TwosComplement.{in_range_lem, out_of_range}
use Rattle.word.proofs.Operands.{Roomy, exact}
use Rattle.ending.specs.declared.Ending.TheVariants.{OutOfRange}
use Rattle.effect.specs.declared.Eff.{Eff}
use Rattle.effect.specs.declared.Eff.TheVariants.{Put, Stop}
use Rattle.effect.specs.Parts.{put_of}

-- an i64 operation on two cells' numbers gives the exact result, so that is what is narrowed
pub put_exact : (f : ℤ → ℤ → ℤ) → Roomy f → (d x y : ℕ) (a b : ℤ) → Fits w32 x → Fits w32 y → a ≡ signed 32 x → b ≡ signed 32 y → (e : Eff) → e ≡ put_of d (narrow 32 (to_z w64 (of_z w64 (f (to_z w64 (of_z w64 a)) (to_z w64 (of_z w64 b)))))) → e ≡ put_of d (narrow 32 (f (signed 32 x) (signed 32 y)))
put_exact f roomy d x y a b fx fy ea eb e q = q ∙ ap (λ (z : ℤ). put_of d (narrow 32 z)) (exact f roomy x y a b fx fy ea eb)

-- a signed result that an i32 holds is taken by the cell, and any other stops the run
module _ (d : ℕ) (s : ℤ) (fits : SFits w64 s) where
  pub cell_taken : (t : ℤ) (n : ℕ) → SFits w32 (to_z w64 (of_z w64 s)) → t ≡ to_z w64 (of_z w64 s) → n ≡ bits_of 32 (to_z w32 (of_z w32 t)) → Put d n ≡ put_of d (narrow 32 s)
  unfolding narrow
  cell_taken t n f e q =
      let z : to_z w64 (of_z w64 s) ≡ s = to_z-of_z w64 s fits in
      let g : SFits w32 s = rw z at f in
      let r : n ≡ bits_of 32 s = q ∙ ap (λ (y : ℤ). bits_of 32 (to_z w32 (of_z w32 y))) (e ∙ z) ∙ ap (bits_of 32) (to_z-of_z w32 s g) in
      rw (in_range_lem 32 s g.sfits, r)

  pub out_of_cells : (SFits w32 (to_z w64 (of_z w64 s)) → ⊥) → Stop OutOfRange ≡ put_of d (narrow 32 s)
  unfolding narrow
  out_of_cells f =
      let z : to_z w64 (of_z w64 s) ≡ s = to_z-of_z w64 s fits in
      let g : SFits w32 s → ⊥ = rw z at f in
      rw (out_of_range 32 s (ge (mag s) (λ h. g (record { sfits = h }))))
    where
      ge : (n : ℕ) → (n < 2 ^ 31 → ⊥) → 2 ^ 31 ≤ n
      ge n h = omega arith
