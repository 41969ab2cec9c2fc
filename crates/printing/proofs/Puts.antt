-- Laws of the printed text, as the code writes it. Assumes nothing.
use Prim.Native.Nat.{ℕ, suc, ◌+◌, ◌*◌, ◌/◌, ◌≤◌, ◌<◌}
use mathlib.Core.Path.{◌≡◌, refl, sym, ◌∙◌}
use mathlib.Core.Bool.{true, false}
use mathlib.Core.List.{List, [], ◌∷◌, ◌++◌, append-nil, append_assoc}
use native.Mathlib.Omega.{arith}
use native.Mathlib.Numerals.{add-one}
use borrow.Author.Tests.{le-leb, lt-leb}
use lib.Dec.{leb}
use lib.ListN.{length, get_or, set, take, drop, length-append}
use Rattle.std.proofs.lemmas.List.{take-append-drop}
use Rattle.std.specs.Prelude.{None, Some}
use lib.Seq.{sets, drop-cons, drop-drop}
use Rattle.laws.specs.Choice.{between}
use Rattle.laws.specs.Lists.{over, drop_all, stored, sets_append}
use Rattle.hexadecimal.specs.Hex.{hex, written}
use Rattle.hexadecimal.specs.Laws.{length_hex}
use Rattle.kernel.specs.Run.{Answer}
use Rattle.program.specs.Printing.{field, stop_fields, count_fields, answer_line, cell_lines, shown}
use Rattle.program.specs.Whole.{Written, wrote, put, shown_in}

-- how long things are
length_field : (n x end : ℕ) → length (field n x end) ≡ n + 1
unfolding field
length_field n x end = simp (length-append, length_hex)

length_stop : (a : Answer) → length (stop_fields a) ≡ 20
unfolding stop_fields
length_stop a = simp (length-append, length_field)

pub length_line : (a : Answer) → length (answer_line a) ≡ 44
unfolding answer_line count_fields
length_line a = simp (length-append, length_field, length_stop a)

pub length_cells : (xs : List ℕ) → length (cell_lines xs) ≡ 9 * length xs
unfolding cell_lines
length_cells [] = refl
length_cells (x ∷ xs) = simp (length-append, length_field 8 x 0x0a, length_cells xs) (omega arith)

-- digits and the byte after them, written
pub field_put : (l b : List ℕ) (at n x end : ℕ) → at + n + 1 ≤ length b → l ≡ written x n b at → set l (at + n) end ≡ sets b at (field n x end)
unfolding written field
field_put l b at n x end h e =
    let w : l ≡ sets b at (hex n x) = rw (le-leb (at + n) (length b) (omega arith)) at e in
    rw w (sym (sets_append (hex n x) (end ∷ []) b at ∙ rw (length_hex n x)))

-- what stands from `at` on, and what follows it
put_after : (l m o s t : List ℕ) (at k : ℕ) → m ≡ sets l at s → o ≡ sets m k t → at + length s ≡ k → o ≡ sets l at (s ++ t)
put_after l m o s t at k e g j = g ∙ rw e (sym (rw j at (sets_append s t l at)))

-- four texts in a row
put_four : (l m₁ m₂ m₃ m₄ f₁ f₂ f₃ f₄ : List ℕ) (at a₁ a₂ a₃ : ℕ) → m₁ ≡ sets l at f₁ → m₂ ≡ sets m₁ a₁ f₂ → m₃ ≡ sets m₂ a₂ f₃ → m₄ ≡ sets m₃ a₃ f₄ → at + length f₁ ≡ a₁ → a₁ + length f₂ ≡ a₂ → a₂ + length f₃ ≡ a₃ → m₄ ≡ sets l at (f₁ ++ f₂ ++ f₃ ++ f₄)
put_four l m₁ m₂ m₃ m₄ f₁ f₂ f₃ f₄ at a₁ a₂ a₃ e₁ e₂ e₃ e₄ p₁ p₂ p₃ =
    let g₂ : m₂ ≡ sets l at (f₁ ++ f₂) = put_after l m₁ m₂ f₁ f₂ at a₁ e₁ e₂ p₁ in
    let g₃ : m₃ ≡ sets l at (f₁ ++ f₂ ++ f₃) = put_after l m₂ m₃ (f₁ ++ f₂) f₃ at a₂ g₂ e₃ (simp length-append (omega arith)) in
    put_after l m₃ m₄ (f₁ ++ f₂ ++ f₃) f₄ at a₃ g₃ e₄ (simp length-append (omega arith))

module _ (a : Answer) (l l₁ l₂ l₃ l₄ : List ℕ) where
  pub stop_put : l₁ ≡ sets l 0 (field 2 a.number 0x20) → l₂ ≡ sets l₁ 3 (field 2 a.body 0x20) → l₃ ≡ sets l₂ 6 (field 4 a.place 0x20) → l₄ ≡ sets l₃ 11 (field 8 a.time 0x20) → l₄ ≡ sets l 0 (stop_fields a)
  unfolding stop_fields
  stop_put e₁ e₂ e₃ e₄ =
      put_four l l₁ l₂ l₃ l₄ (field 2 a.number 0x20) (field 2 a.body 0x20) (field 4 a.place 0x20) (field 8 a.time 0x20) 0 3 6 11 e₁ e₂ e₃ e₄
      (simp length_field) (simp length_field) (simp length_field)

  pub counts_put : l₁ ≡ sets l 20 (field 8 a.instructions 0x20) → l₂ ≡ sets l₁ 29 (field 4 a.choices 0x20) → l₃ ≡ sets l₂ 34 (field 4 a.inputs 0x20) → l₄ ≡ sets l₃ 39 (field 4 a.threads 0x0a) → l₄ ≡ sets l 20 (count_fields a)
  unfolding count_fields
  counts_put e₁ e₂ e₃ e₄ =
      put_four l l₁ l₂ l₃ l₄ (field 8 a.instructions 0x20) (field 4 a.choices 0x20) (field 4 a.inputs 0x20) (field 4 a.threads 0x0a) 20 29 34 39 e₁ e₂ e₃ e₄
      (simp length_field) (simp length_field) (simp length_field)

pub answer_put : (a : Answer) (l m o : List ℕ) → length l ≡ 44 → m ≡ sets l 0 (stop_fields a) → o ≡ sets m 20 (count_fields a) → o ≡ answer_line a
unfolding answer_line
answer_put a l m o f e g =
    let k : length (stop_fields a ++ count_fields a) ≡ 44 = length_line a in
    let s : o ≡ over (stop_fields a ++ count_fields a) l = put_after l m o (stop_fields a) (count_fields a) 0 20 e g (omega (arith, length_stop a)) ∙ stored (stop_fields a ++ count_fields a) l (omega arith) in
    let d : drop (length (stop_fields a ++ count_fields a)) l ≡ [] = drop_all l (length (stop_fields a ++ count_fields a)) (omega arith) in
    s ∙ rw (d, append-nil)

-- the loop over the cells
pub cells_turn : (l m ys xs : List ℕ) (i at : ℕ) → i < length xs → at ≡ 9 * i → sets l (9 * i) (cell_lines (drop i xs)) ≡ ys → m ≡ sets l at (field 8 (get_or xs i 0) 0x0a) → sets m (9 * (i + 1)) (cell_lines (drop (i + 1) xs)) ≡ ys
unfolding cell_lines
cells_turn l m ys xs i at h a e g =
    let c : sets l (9 * i) (field 8 (get_or xs i 0) 0x0a ++ cell_lines (drop (suc i) xs)) ≡ ys = rw (drop-cons xs i 0 h) at e in
    let k : 9 * i + length (field 8 (get_or xs i 0) 0x0a) ≡ 9 * suc i = omega (arith, length_field 8 (get_or xs i 0) 0x0a) in
    rw (add-one i, g, a, ← k) (sym (sets_append (field 8 (get_or xs i 0) 0x0a) (cell_lines (drop (suc i) xs)) l (9 * i)) ∙ c)

pub cells_end : (l ys xs : List ℕ) (i : ℕ) → length xs ≤ i → sets l (9 * i) (cell_lines (drop i xs)) ≡ ys → l ≡ ys
unfolding cell_lines
cells_end l ys xs i h e = rw (drop_all xs i h) at e

-- a buffer in two parts: the answer's line, and the lines of the cells after it
module _ (a : Answer) (cells out lines : List ℕ) where
  pub show_short : length out < 44 → wrote None out ≡ shown_in a cells out
  unfolding shown_in
  show_short h = rw (lt-leb (44 + 9 * length cells) (length out) (omega arith))

  module _ (e : lines ≡ drop 44 out) (k : length lines + 44 ≡ length out) where
    pub show_narrow : (line : List ℕ) → line ≡ take 44 out → length lines / 9 < length cells → wrote None (line ++ lines) ≡ shown_in a cells out
    unfolding shown_in
    show_narrow line g h = rw (lt-leb (44 + 9 * length cells) (length out) (omega arith), g, e, take-append-drop 44 out)

    module _ (m : List ℕ) (h : length cells ≤ length lines / 9) (g : m ≡ answer_line a) where
      there : leb (44 + 9 * length cells) (length out) ≡ true
      there = le-leb (44 + 9 * length cells) (length out) (omega arith)

      pub show_refused : true ≡ between 1 a.number 9 → wrote (Some 44) (m ++ lines) ≡ shown_in a cells out
      unfolding shown_in shown
      show_refused z = rw (there, ← z, append-nil, length_line a, g, e)

      pub show_whole : (o : List ℕ) → false ≡ between 1 a.number 9 → o ≡ sets lines 0 (cell_lines cells) → wrote (Some (44 + 9 * length cells)) (m ++ o) ≡ shown_in a cells out
      unfolding shown_in shown
      show_whole o z p =
          let l : length (answer_line a ++ cell_lines cells) ≡ 44 + 9 * length cells = simp (length-append, length_line a, length_cells cells) in
          let s : o ≡ cell_lines cells ++ drop (9 * length cells) (drop 44 out) = p ∙ stored (cell_lines cells) lines (omega (arith, length_cells cells)) ∙ rw (length_cells cells, e) in
          rw (there, ← z, l, g, s, drop-drop, append_assoc)

-- and what is shown to those who know that there is room
pub shown_is : (a : Answer) (cells out : List ℕ) (w : Written) → 44 + 9 * length cells ≤ length out → w ≡ shown_in a cells out → w ≡ put (shown a cells) out
unfolding shown_in
shown_is a cells out w h e = rw (le-leb (44 + 9 * length cells) (length out) h) at e
