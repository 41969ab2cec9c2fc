-- Laws of texts, and of writing as a whole, as the code's returns have them. Assumes nothing.
use Prim.Native.Nat.{ℕ, suc, ◌+◌, ◌*◌, ◌/◌, ◌≤◌, ◌<◌}
use mathlib.Core.Path.{◌≡◌, sym, ap, ◌∙◌}
use mathlib.Core.List.{List, [], ◌∷◌, ◌++◌}
use native.Mathlib.Omega.{arith}
use native.Mathlib.Numerals.{add-one}
use borrow.Author.Tests.{lt-ltb, le-ltb, le-leb, ne_eqb}
use lib.ListN.{length, get_or, set, drop}
use lib.Seq.{sets, drop-cons}
use Rattle.laws.specs.Lists.{drop_all, stored, sets_append}
use Rattle.hexadecimal.specs.Hex.{hex, written}
use Rattle.hexadecimal.specs.Laws.{length_hex}
use Rattle.image.specs.Judge.{Said, say, judged}
use Rattle.lines.specs.Text.{outcome, line, text, writing}
use Rattle.lines.proofs.Texts.{length_line, length_text}

-- the line of a frame, written
pub line_put : (l b : List ℕ) (at f : ℕ) → at + 17 ≤ length b → l ≡ written f 16 b at → set l (at + 16) 0x0a ≡ sets b at (line f)
unfolding written line
line_put l b at f h e =
    let w : l ≡ sets b at (hex 16 f) = rw (le-leb (at + 16) (length b) (omega arith)) at e in
    rw w (sym (sets_append (hex 16 f) (0x0a ∷ []) b at ∙ rw (length_hex 16 f)))

pub text_turn : (l m ys fs : List ℕ) (i at : ℕ) → i < length fs → at ≡ 17 * i → sets l (17 * i) (text (drop i fs)) ≡ ys → m ≡ sets l at (line (get_or fs i 0)) → sets m (17 * (i + 1)) (text (drop (i + 1) fs)) ≡ ys
unfolding text
text_turn l m ys fs i at h a e g =
    let c : sets l (17 * i) (line (get_or fs i 0) ++ text (drop (suc i) fs)) ≡ ys = rw (drop-cons fs i 0 h) at e in
    let k : 17 * i + length (line (get_or fs i 0)) ≡ 17 * suc i = omega (arith, length_line (get_or fs i 0)) in
    rw (add-one i, g, a, ← k) (sym (sets_append (line (get_or fs i 0)) (text (drop (suc i) fs)) l (17 * i)) ∙ c)

pub text_end : (l ys fs : List ℕ) (i : ℕ) → length fs ≤ i → sets l (17 * i) (text (drop i fs)) ≡ ys → l ≡ ys
unfolding text
text_end l ys fs i h e = rw (drop_all fs i h) at e

-- writing as a whole
pub write_refused : (table bytes : List ℕ) (s : Said) → s ≡ judged table → (s.number ≡ 0 → ⊥) → outcome s bytes ≡ writing table bytes
unfolding writing
write_refused table bytes s p z = rw (← p, ne_eqb s.number 0 z)

module _ (table bytes : List ℕ) (n : ℕ) (p : say 0 n ≡ judged table) where
  pub write_room : length bytes / 17 < length table → outcome (say 8 0) bytes ≡ writing table bytes
  unfolding writing
  write_room h = rw (← p, lt-ltb (length bytes) (17 * length table) (omega arith))

  pub write_done : (t : List ℕ) → length table ≤ length bytes / 17 → t ≡ sets bytes 0 (text table) → outcome (say 0 (17 * length table)) t ≡ writing table bytes
  unfolding writing
  write_done t h g =
      let f : length (text table) ≤ length bytes = omega (arith, length_text table) in
      rw (← p, le-ltb (length bytes) (17 * length table) (omega arith))
      (ap (outcome (say 0 (17 * length table))) (g ∙ stored (text table) bytes f))
