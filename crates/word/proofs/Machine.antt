-- What the machine's numbers are in the words of the definitions. The machine keeps a signed number z of the width v as bits, of_z v z, and
-- reads them by to_z v. Assumes nothing.
use mathlib.Core.Path.{◌≡◌, refl, sym, ◌∙◌}
use Prim.Native.Nat.{ℕ, ◌+◌, ◌-◌, ◌%◌, ◌^◌, ◌<◌}
use native.Mathlib.Nat.{add-mod-mod, add-mod_right, mod-eq_of_lt}
use native.Mathlib.Omega.{arith}
use borrow.Author.Tests.{le-ltb}
use lib.IntN.{ℤ, pos, negsuc}
use lib.Signed.{mag}
use mir.Syntax.{w32}
use mir.Val.{to_z, of_z, Fits}
use mir.ValLaws.{to_z_pos}
use Rattle.word.specs.Word.{sub_u, signed, bits_of}
use Rattle.word.specs.TwosComplement.{by_half, mag_signed, read_written}

-- at 32 bits the machine reads and writes as the definitions do
pub read_is : (x : ℕ) → x < 2 ^ 32 → to_z w32 x ≡ signed 32 x
read_is x l =
    by_half (λ z. to_z w32 x ≡ z) 32 x l (λ h. to_z_pos w32 x h) (λ h. rw (le-ltb x (2 ^ 31) h))

pub bits_are : (z : ℤ) → of_z w32 z ≡ bits_of 32 z
unfolding bits_of
bits_are (pos n) = refl
bits_are (negsuc n) = refl

-- a cell's number is one of the range, and has the cell's bits
pub magnitude : (x : ℕ) → Fits w32 x → mag (signed 32 x) < 2 ^ 31
magnitude x f = mag_signed 32 (omega arith) x f.fits

pub written : (x : ℕ) → Fits w32 x → of_z w32 (signed 32 x) ≡ x
written x f = bits_are (signed 32 x) ∙ read_written 32 (omega arith) x f.fits

-- the wrapping difference is told by the sum that gives it back
pub difference_is : (w r x y : ℕ) → r < 2 ^ w → y < 2 ^ w → (r + y) % 2 ^ w ≡ x → r ≡ sub_u w x y
unfolding sub_u
difference_is w r x y hr hy e =
    let p : (x + 2 ^ w) - y ≡ (2 ^ w - y) + x = omega arith in
    let s : (2 ^ w - y) + (r + y) ≡ r + 2 ^ w = omega arith in
    sym (rw (p, ← e) (add-mod-mod (2 ^ w - y) (r + y) (2 ^ w) ∙ rw s (add-mod_right r (2 ^ w) ∙ mod-eq_of_lt hr)))
