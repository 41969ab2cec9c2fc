-- Laws of a job's lines, as the code's loop and returns have them. Assumes nothing.
use Rattle.std.specs.Prelude.{Option, None, Some, unwrap_or, if◌then◌else◌}
use Rattle.std.specs.List.{position, position_or_len}
use Rattle.std.proofs.lemmas.List.Recursion.{is_position_or_len}
use Rattle.std.proofs.lemmas.List.Sums.{prefix_len-le-length}
use Prim.Native.Nat.{ℕ, suc, ◌+◌, ◌*◌, ◌/◌, ◌%◌, ◌≤◌, ◌<◌}
use mathlib.Core.Path.{◌≡◌, refl, sym, ap, ◌∙◌}
use mathlib.Core.Bool.{Bool, true, false, not}
use mathlib.Core.List.{List, ◌∷◌}
use native.Mathlib.Omega.{arith}
use native.Mathlib.Nat.{mul-le-mul_left}
use native.Mathlib.Numerals.{add-one}
use borrow.Author.Tests.{lt-ltb, le-ltb, le-leb, lt-leb, eq-eqb, ne_eqb, ltb-false}
use lib.Dec.{eqb, ltb}
use lib.ListN.{length, get_or, take, drop, length-drop}
use lib.Seq.{drop-cons, length-take-le}
use Rattle.hexadecimal.specs.Hex.{number_at}
use Rattle.program.specs.JobLines.{line_length, split_line, after_line, ended, budget_of, numbers_from, numbers_of}
use Rattle.program.proofs.Cap.{number_take, numbers_take}

-- a line's length is where the first 0a stands
line_place : (text : List ℕ) → line_length text ≡ position_or_len (λ b. eqb b 0x0a) text
unfolding line_length
line_place text = is_position_or_len line_length (λ b. eqb b 0x0a) refl (λ b bs. by (eqb b 0x0a) (line_length bs)) text
  where
    by : (t : Bool) (n : ℕ) → (if t then 0 else suc n) ≡ (if t then 0 else 1 + n)
    by true n = refl
    by false n = omega arith

pub line_within : (text : List ℕ) → line_length text ≤ length text
line_within text = omega (arith, line_place text, prefix_len-le-length (λ b. not (eqb b 0x0a)) text)

pub line_is_position : (text : List ℕ) → unwrap_or (position (λ b. eqb b 0x0a) text) (length text) ≡ line_length text
line_is_position text = by (ltb (position_or_len (λ b. eqb b 0x0a) text) (length text)) refl
  where
    by : (t : Bool) → ltb (position_or_len (λ b. eqb b 0x0a) text) (length text) ≡ t → unwrap_or (if t then Some (position_or_len (λ b. eqb b 0x0a) text) else None) (length text) ≡ line_length text
    by true e = sym (line_place text)
    by false e = omega (arith, ltb-false _ _ e, line_within text, line_place text)

-- the line and what follows it, or none
module _ (text rest : List ℕ) (e : rest ≡ drop (line_length text) text) where
  pub split_there : (line more : List ℕ) (b : ℕ) → line ≡ take (line_length text) text → rest ≡ b ∷ more → Some (line, more) ≡ split_line text
  unfolding split_line ended
  split_there line more b g h =
      let l : length rest ≡ suc (length more) = ap length h in
      let k : line_length text < length text = omega (arith, ap length e, length-drop (line_length text) text) in
      let d : drop (line_length text) text ≡ get_or text (line_length text) 0 ∷ drop (suc (line_length text)) text = drop-cons text (line_length text) 0 k in
      let m : more ≡ drop (suc (line_length text)) text = cc in
      rw (lt-ltb (line_length text) (length text) k, add-one (line_length text), m, g)

  pub split_none : length rest ≡ 0 → None ≡ split_line text
  unfolding split_line ended
  split_none g =
      let k : length text ≤ line_length text = omega (arith, ap length e, length-drop (line_length text) text) in
      rw (le-ltb (line_length text) (length text) k)

-- what a first line that was split off is
pub record Cut (text line rest : List ℕ) : Type 0 where
  pub is_ended : ended text ≡ true
  pub is_line : line ≡ take (line_length text) text
  pub is_rest : rest ≡ after_line text

abbrev Parts : Type 0
Parts = Option (List ℕ × List ℕ)

module _ (text : List ℕ) where
  cut_by : (line rest : List ℕ) (b : Bool) → ended text ≡ b → ◌≡◌ {A = Parts} (Some (line, rest)) (if b then Some (take (line_length text) text, after_line text) else None) → Cut text line rest
  cut_by line rest true e g =
      let p : ◌≡◌ {A = List ℕ × List ℕ} (line, rest) (take (line_length text) text, after_line text) = cc in
      record { is_ended = e; is_line = ap (λ q. q.0) p; is_rest = ap (λ q. q.1) p }
  cut_by line rest false e g =
      let z : ◌≡◌ {A = ℕ} 0 1 = cc in
      absurd (omega arith)

  pub cut_there : (line rest : List ℕ) → ◌≡◌ {A = Parts} (Some (line, rest)) (split_line text) → Cut text line rest
  unfolding split_line
  cut_there line rest e = cut_by line rest (ended text) refl e

  uncut_by : (b : Bool) → ◌≡◌ {A = Parts} None (if b then Some (take (line_length text) text, after_line text) else None) → b ≡ false
  uncut_by true e =
      let z : ◌≡◌ {A = ℕ} 0 1 = cc in
      absurd (omega arith)
  uncut_by false e = refl

  pub not_cut : None ≡ split_line text → ended text ≡ false
  unfolding split_line
  not_cut e = uncut_by (ended text) e

  pub budget_unended : None ≡ split_line text → budget_of text ≡ None
  unfolding budget_of
  budget_unended e = rw (not_cut e)

  pub numbers_unended : (n most : ℕ) → None ≡ split_line text → numbers_of n most text ≡ None
  unfolding numbers_of
  numbers_unended n most e = rw (not_cut e)

module _ (text line rest : List ℕ) (c : Cut text line rest) where
  line_counted : length line ≡ line_length text
  line_counted = ap length c.is_line ∙ length-take-le (line_length text) text (line_within text)

  -- the budget
  pub budget_other : (length line ≡ 8 → ⊥) → budget_of text ≡ None
  unfolding budget_of
  budget_other g = rw (c.is_ended, ne_eqb (line_length text) 8 (λ q. g (line_counted ∙ q)))

  pub budget_there : length line ≡ 8 → number_at line 0 8 ≡ budget_of text
  unfolding budget_of
  budget_there g =
      let k : line_length text ≡ 8 = sym line_counted ∙ g in
      let n : number_at line 0 8 ≡ number_at text 0 8 = rw c.is_line (number_take (line_length text) text 0 8 (omega arith)) in
      rw (c.is_ended, eq-eqb (line_length text) 8 k) n

  -- a line of numbers
  module _ (n most : ℕ) where
    pub numbers_ragged : (length line % n ≡ 0 → ⊥) → numbers_of n most text ≡ None
    unfolding numbers_of
    numbers_ragged g = rw (c.is_ended, ← line_counted, ne_eqb (length line % n) 0 g)

    pub numbers_many : length line % n ≡ 0 → most < length line / n → numbers_of n most text ≡ None
    unfolding numbers_of
    numbers_many g m = rw (c.is_ended, ← line_counted, eq-eqb (length line % n) 0 g, lt-leb (length line / n) most m)

    inside : 0 < n → (x j : ℕ) → j < x / n → n * (0 + j) + n ≤ x
    inside o x j h =
        let k : suc j ≤ x / n = omega arith in
        omega (arith, mul-le-mul_left n k)

    pub numbers_there : 0 < n → length line % n ≡ 0 → length line / n ≤ most → numbers_from line n 0 (length line / n) ≡ numbers_of n most text
    unfolding numbers_of
    numbers_there o g m =
        let f : numbers_from line n 0 (length line / n) ≡ numbers_from text n 0 (length line / n) =
        ap (λ (l : List ℕ). numbers_from l n 0 (length line / n)) c.is_line
        ∙ numbers_take (line_length text) text n 0 (length line / n) (λ j h. omega (arith, inside o (length line) j h, line_counted)) in
        rw (c.is_ended, ← line_counted, eq-eqb (length line % n) 0 g, le-leb (length line / n) most m) f
