-- How long lines and texts are. Assumes nothing.
use Prim.Native.Nat.{ℕ, ◌*◌}
use mathlib.Core.Path.{◌≡◌, refl}
use mathlib.Core.List.{List, [], ◌∷◌}
use native.Mathlib.Omega.{arith}
use lib.ListN.{length, length-append}
use Rattle.hexadecimal.specs.Laws.{length_hex}
use Rattle.lines.specs.Text.{line, text}

pub length_line : (f : ℕ) → length (line f) ≡ 17
unfolding line
length_line f = simp (length-append, length_hex)

pub length_text : (fs : List ℕ) → length (text fs) ≡ 17 * length fs
unfolding text
length_text [] = refl
length_text (f ∷ fs) = simp (length-append, length_line f, length_text fs) (omega arith)
