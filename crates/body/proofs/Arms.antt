-- The definitions of a body's turn, each law as an arm of the code has it. Assumes nothing.
use Prim.Native.Nat.{ℕ, ◌+◌, ◌<◌}
use mathlib.Core.Path.{◌≡◌}
use mathlib.Core.List.{List}
use native.Mathlib.Omega.{arith}
use lib.ListN.{length}
use Rattle.plain.specs.declared.End.{End}
use Rattle.plain.specs.declared.End.TheVariants.{Left}
use Rattle.plain.specs.declared.Ran.{Ran}
use Rattle.plain.specs.Plain.{run_plain}
use Rattle.plain.specs.Laws.{Inside, left_inside}

-- where an instruction that is left stands
module _ {t : List ℕ} {base p : ℕ} {e : End} (h : e ≡ Left → Inside t base 0 p) where
  pub fits_left : {m : ℕ} → e ≡ Left → length t < m → base + p < m
  fits_left q l = let i = h q in omega (arith, i.line)

  pub line_left : e ≡ Left → (base + p < length t) × (p < 1024)
  line_left q = let i = h q in (i.line, i.place)

-- what the run of plain instructions leaves, as the next call asks it
pub left_there : (t : List ℕ) (base len x p : ℕ) (cs ds : List ℕ) (r : Ran) → record { ran = r; cells = ds } ≡ run_plain x t base len p cs → r.end ≡ Left → Inside t base 0 r.place
left_there t base len x p cs ds r e q = let i = left_inside t base len x p cs _ e q in record { line = i.line; place = i.place }
