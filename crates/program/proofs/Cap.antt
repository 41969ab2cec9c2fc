-- What stands past the longest job changes no answer: the bytes that a program need not read. Assumes nothing.
use Prim.Native.Nat.{ℕ, zero, suc, ◌+◌, ◌-◌, ◌*◌, ◌/◌, ◌%◌, ◌≤◌, ◌<◌}
use mathlib.Core.Path.{◌≡◌, refl, sym, ap, ◌∙◌}
use mathlib.Core.Bool.{Bool, true, false, ◌&&◌}
use mathlib.Core.List.{List, [], ◌∷◌}
use native.Mathlib.Omega.{arith}
use borrow.Author.Tests.{ltb-true, ltb-false, leb-true, leb-false, lt-ltb, le-ltb, le-leb, lt-leb, eqb-true, ne_eqb}
use lib.Dec.{eqb, ltb, leb}
use lib.ListN.{length, take, replicate, length-take}
use lib.Seq.{get_or-take, take-nil}
use Rattle.std.proofs.lemmas.List.{drop-take}
use Rattle.std.specs.Prelude.{if◌then◌else◌, Option, None, Some}
use Rattle.laws.specs.Lists.{over}
use Rattle.hexadecimal.specs.Hex.{digits, value, number_at}
use Rattle.image.specs.Limits.{most_lines, most_choices, most_inputs}
use Rattle.image.specs.Judge.{Said, say, judged}
use Rattle.lines.specs.Text.{line_at, before as frame_before, frames_from, frames, more, settled, Outcome, outcome, read_as, reading}
use Rattle.lines.proofs.Cap.{looking, same_answer, same_frames}
use Rattle.program.specs.JobLines.{line_length, ended, after_line, budget_of, numbers_from, numbers_of}
use Rattle.program.specs.Whole.{by_image, from_image, by_inputs, from_inputs, by_choices, from_choices, by_budget, printed, longest_job}

-- tests against two bounds that agree
leb_same : (x y z : ℕ) → (x ≤ y → x ≤ z) → (x ≤ z → x ≤ y) → leb x y ≡ leb x z
leb_same x y z f g = by (leb x z) refl
  where
    by : (b : Bool) → leb x z ≡ b → leb x y ≡ b
    by true e = le-leb x y (g (leb-true x z e))
    by false e = lt-leb x y (above (leb x y) refl)
      where
        above : (c : Bool) → leb x y ≡ c → y < x
        above true q = absurd (omega (arith, f (leb-true x y q), leb-false x z e))
        above false q = leb-false x y q

ltb_same : (x y z : ℕ) → (x < y → x < z) → (x < z → x < y) → ltb x y ≡ ltb x z
ltb_same x y z f g = by (ltb x z) refl
  where
    by : (b : Bool) → ltb x z ≡ b → ltb x y ≡ b
    by true e = lt-ltb x y (g (ltb-true x z e))
    by false e = le-ltb x y (above (ltb x y) refl)
      where
        above : (c : Bool) → ltb x y ≡ c → y ≤ x
        above true q = absurd (omega (arith, f (ltb-true x y q), ltb-false x z e))
        above false q = ltb-false x y q

-- the first c bytes
module _ (c : ℕ) (bs : List ℕ) where
  digits_take : (at n : ℕ) → at + n ≤ c → digits (take c bs) at n ≡ digits bs at n
  unfolding digits
  digits_take at zero h = refl
  digits_take at (suc n) h = rw (digits_take at n (omega arith), get_or-take c bs (at + n) 0 (omega arith))

  value_take : (at n : ℕ) → at + n ≤ c → value (take c bs) at n ≡ value bs at n
  unfolding value
  value_take at zero h = refl
  value_take at (suc n) h = rw (value_take at n (omega arith), get_or-take c bs (at + n) 0 (omega arith))

  within : (x : ℕ) → x ≤ c → leb x (length (take c bs)) ≡ leb x (length bs)
  within x h =
      leb_same x (length (take c bs)) (length bs) (λ l. omega (arith, length-take c bs)) (λ l. omega (arith, length-take c bs))

  below : (x : ℕ) → x < c → ltb x (length (take c bs)) ≡ ltb x (length bs)
  below x h =
      ltb_same x (length (take c bs)) (length bs) (λ l. omega (arith, length-take c bs)) (λ l. omega (arith, length-take c bs))

  pub number_take : (at n : ℕ) → at + n ≤ c → number_at (take c bs) at n ≡ number_at bs at n
  unfolding number_at
  number_take at n h = rw (within (at + n) h, digits_take at n h, value_take at n h)

  -- the image
  line_take : (at : ℕ) → at + 17 ≤ c → line_at (take c bs) at ≡ line_at bs at
  unfolding line_at
  line_take at h = rw (get_or-take c bs (at + 16) 0 (omega arith), number_take at 16 (omega arith))

  frames_take : (i n : ℕ) → 17 * (i + n) ≤ c → frames_from (take c bs) i n ≡ frames_from bs i n
  unfolding frames_from
  frames_take i zero h = refl
  frames_take i (suc n) h = rw (line_take (17 * i) (omega arith), frames_take (suc i) n (omega arith))

few_before : (l : Option ℕ) (xs : List ℕ) (n : ℕ) → length xs ≤ n → length (frame_before l xs) ≤ suc n
few_before (Some f) xs n h = omega arith
few_before None xs n h = omega arith

few_frames : (bs : List ℕ) (i n : ℕ) → length (frames_from bs i n) ≤ n
unfolding frames_from
few_frames bs i zero = omega arith
few_frames bs i (suc n) = few_before (line_at bs (17 * i)) (frames_from bs (suc i) n) n (few_frames bs (suc i) n)

read_as_same : (s : Said) (fs gs table : List ℕ) → (s.number ≡ 0 → fs ≡ gs) → read_as s fs table ≡ read_as s gs table
read_as_same s fs gs table f = by (eqb s.number 0) refl
  where
    by : (b : Bool) → eqb s.number 0 ≡ b → outcome s (if b then over fs table else table) ≡ outcome s (if b then over gs table else table)
    by true e = ap (λ (l : List ℕ). outcome s (over l table)) (f (eqb-true s.number 0 e))
    by false e = refl

module _ (c : ℕ) (bs : List ℕ) (h : 17 * most_lines < c) where
  cut : frames_from (take c bs) 0 most_lines ≡ frames_from bs 0 most_lines
  cut = frames_take c bs 0 most_lines (omega arith)

  looking_take : looking (take c bs) most_lines ≡ looking bs most_lines
  looking_take = rw (cut, below c bs (17 * length (frames_from bs 0 most_lines)) (omega (arith, few_frames bs 0 most_lines)))

  same_said : settled (more (take c bs)) (judged (frames (take c bs))) ≡ settled (more bs) (judged (frames bs))
  same_said = same_answer (take c bs) ∙ looking_take ∙ sym (same_answer bs)

  same_lines : (settled (more bs) (judged (frames bs))).number ≡ 0 → frames (take c bs) ≡ frames bs
  same_lines e =
      same_frames (take c bs) (ap (λ (s : Said). s.number) same_said ∙ e) ∙ cut ∙ sym (same_frames bs e)

  pub same_reading : (table : List ℕ) → reading (take c bs) table ≡ reading bs table
  unfolding reading
  same_reading table =
      rw same_said
      (ap (λ (r : Outcome). if ltb (length table) most_lines then outcome (say 8 0) table else r)
      (read_as_same (settled (more bs) (judged (frames bs))) (frames (take c bs)) (frames bs) table same_lines))

image_take : (b c : ℕ) (cs is image : List ℕ) → 17 * most_lines < c → from_image b cs is (take c image) ≡ from_image b cs is image
unfolding from_image
image_take b c cs is image h = ap (by_image b cs is) (same_reading c image h (replicate most_lines 0))

-- a line
length_short : (text : List ℕ) (c : ℕ) → line_length text ≤ c → line_length (take c text) ≡ line_length text
unfolding line_length
length_short [] c h = rw (take-nil c)
length_short (b ∷ bs) zero h = omega arith
length_short (b ∷ bs) (suc c) h = by (eqb b 0x0a) h (λ l. length_short bs c l)
  where
    by : (t : Bool) → (if t then 0 else suc (line_length bs)) ≤ suc c → (line_length bs ≤ c → line_length (take c bs) ≡ line_length bs) → (if t then 0 else suc (line_length (take c bs))) ≡ (if t then 0 else suc (line_length bs))
    by true l f = refl
    by false l f = ap suc (f (omega arith))

length_long : (text : List ℕ) (c : ℕ) → c ≤ line_length text → line_length (take c text) ≡ c
unfolding line_length
length_long [] c h = rw (take-nil c) (omega arith)
length_long (b ∷ bs) zero h = refl
length_long (b ∷ bs) (suc c) h = by (eqb b 0x0a) h (λ l. length_long bs c l)
  where
    by : (t : Bool) → suc c ≤ (if t then 0 else suc (line_length bs)) → (c ≤ line_length bs → line_length (take c bs) ≡ c) → (if t then 0 else suc (line_length (take c bs))) ≡ suc c
    by true l f = absurd (omega arith)
    by false l f = ap suc (f (omega arith))

module _ (c : ℕ) (text : List ℕ) where
  -- a line that goes past the cut is not ended before it
  cut_unended : c ≤ line_length text → ended (take c text) ≡ false
  unfolding ended
  cut_unended h = le-ltb (line_length (take c text)) (length (take c text)) (omega (arith, length_long text c h, length-take c text))

  module _ (h : line_length text < c) where
    same_length : line_length (take c text) ≡ line_length text
    same_length = length_short text c (omega arith)

    same_ended : ended (take c text) ≡ ended text
    unfolding ended
    same_ended = rw same_length (below c text (line_length text) h)

    after_take : (m : ℕ) → line_length text + 1 + m ≡ c → after_line (take c text) ≡ take m (after_line text)
    after_take m e = rw (same_length, ← e) (drop-take (line_length text + 1) m text)

  pub numbers_take : (n i k : ℕ) → ((j : ℕ) → j < k → n * (i + j) + n ≤ c) → numbers_from (take c text) n i k ≡ numbers_from text n i k
  unfolding numbers_from
  numbers_take n i zero h = refl
  numbers_take n i (suc k) h =
      let z : i + 0 ≡ i = omega arith in
      let f : n * i + n ≤ c = rw z at (h 0 (omega arith)) in
      rw (number_take c text (n * i) n f, numbers_take n (suc i) k (λ j l. next j (h (suc j) (omega arith))))
    where
      next : (j : ℕ) → n * (i + suc j) + n ≤ c → n * (suc i + j) + n ≤ c
      next j g =
          let s : suc i + j ≡ i + suc j = omega arith in
          rw s g

-- what numbers that were read tell of their line
record Read (n most : ℕ) (text : List ℕ) : Type 0 where
  pub even : line_length text % n ≡ 0
  pub few : line_length text / n ≤ most

module _ (n most : ℕ) (text : List ℕ) where
  by_tests : (xs : List ℕ) (a b c : Bool) (r : Option (List ℕ)) → eqb (line_length text % n) 0 ≡ b → leb (line_length text / n) most ≡ c → (if a && b && c then r else None) ≡ Some xs → Read n most text
  by_tests xs true true true r p q e = record { even = eqb-true (line_length text % n) 0 p; few = leb-true (line_length text / n) most q }
  by_tests xs true true false r p q e =
      let z : ◌≡◌ {A = ℕ} 0 1 = cc in
      absurd (omega arith)
  by_tests xs true false c r p q e =
      let z : ◌≡◌ {A = ℕ} 0 1 = cc in
      absurd (omega arith)
  by_tests xs false b c r p q e =
      let z : ◌≡◌ {A = ℕ} 0 1 = cc in
      absurd (omega arith)

  reads : (xs : List ℕ) → numbers_of n most text ≡ Some xs → Read n most text
  unfolding numbers_of
  reads xs e = by_tests xs (ended text) (eqb (line_length text % n) 0) (leb (line_length text / n) most) _ refl refl e

  too_many : (a b : Bool) (r : Option (List ℕ)) → (if a && b && false then r else None) ≡ None
  too_many true true r = refl
  too_many true false r = refl
  too_many false b r = refl

  numbers_far : most < line_length text / n → numbers_of n most text ≡ None
  unfolding numbers_of
  numbers_far h = rw (lt-leb (line_length text / n) most h) (too_many (ended text) (eqb (line_length text % n) 0) _)

  numbers_cut : (c : ℕ) → c ≤ line_length text → numbers_of n most (take c text) ≡ None
  unfolding numbers_of
  numbers_cut c h = rw (cut_unended c text h)

  numbers_same : (c : ℕ) → line_length text < c → ((x j : ℕ) → j < x / n → n * (0 + j) + n ≤ x) → numbers_of n most (take c text) ≡ numbers_of n most text
  unfolding numbers_of
  numbers_same c h inside =
      rw (same_ended c text h, same_length c text h, numbers_take c text n 0 (line_length text / n) (λ j l. omega (arith, inside (line_length text) j l)))

-- a stage that reads numbers: where the next one looks at no more than K bytes, this one looks at no more than the longest line and those
module _ (n most K c : ℕ) (go : Option (List ℕ) → List ℕ → List ℕ) (text : List ℕ)
    (stops : (r s : List ℕ) → go None r ≡ go None s)
    (goes_on : (xs rest : List ℕ) (m : ℕ) → K ≤ m → go (Some xs) (take m rest) ≡ go (Some xs) rest)
    (far : (x : ℕ) → c ≤ x → most < x / n)
    (near : (x : ℕ) → x % n ≡ 0 → x / n ≤ most → K + x + 1 ≤ c)
    (inside : (x j : ℕ) → j < x / n → n * (0 + j) + n ≤ x) where
  by_line : line_length text < c → (r : Option (List ℕ)) → numbers_of n most text ≡ r → go r (after_line (take c text)) ≡ go r (after_line text)
  by_line h None e = stops (after_line (take c text)) (after_line text)
  by_line h (Some xs) e =
      let r : Read n most text = reads n most text xs e in
      let k : K + line_length text + 1 ≤ c = near (line_length text) r.even r.few in
      let m : line_length text + 1 + (c - (line_length text + 1)) ≡ c = omega arith in
      let g : K ≤ c - (line_length text + 1) = omega arith in
      rw (after_take c text h (c - (line_length text + 1)) m) (goes_on xs (after_line text) (c - (line_length text + 1)) g)

  by_length : (t : Bool) → leb c (line_length text) ≡ t → go (numbers_of n most (take c text)) (after_line (take c text)) ≡ go (numbers_of n most text) (after_line text)
  by_length true e =
      let l : c ≤ line_length text = leb-true c (line_length text) e in
      rw (numbers_cut n most text c l, numbers_far n most text (far (line_length text) l)) (stops (after_line (take c text)) (after_line text))
  by_length false e =
      let l : line_length text < c = leb-false c (line_length text) e in
      rw (numbers_same n most text c l inside) (by_line l (numbers_of n most text) refl)

  numbers_stage : go (numbers_of n most (take c text)) (after_line (take c text)) ≡ go (numbers_of n most text) (after_line text)
  numbers_stage = by_length (leb c (line_length text)) refl

inputs_take : (b c : ℕ) (cs text : List ℕ) → 17 * most_lines + 1 + 8193 ≤ c → from_inputs b cs (take c text) ≡ from_inputs b cs text
unfolding from_inputs
inputs_take b c cs text h =
    numbers_stage 8 most_inputs (17 * most_lines + 1) c (by_inputs b cs) text (λ r s. refl) (λ xs rest m l. image_take b m cs xs rest (omega arith))
    (λ x l. omega arith) (λ x e l. omega arith) (λ x j l. omega arith)

choices_take : (b c : ℕ) (text : List ℕ) → 17 * most_lines + 1 + 8193 + 8193 ≤ c → from_choices b (take c text) ≡ from_choices b text
unfolding from_choices
choices_take b c text h =
    numbers_stage 2 most_choices (17 * most_lines + 1 + 8193) c (by_choices b) text (λ r s. refl) (λ xs rest m l. inputs_take b m xs rest l)
    (λ x l. omega arith) (λ x e l. omega arith) (λ x j l. omega arith)

-- the budget
module _ (c : ℕ) (text : List ℕ) where
  unlike : (a : Bool) (r : Option ℕ) → (if a && false then r else None) ≡ None
  unlike true r = refl
  unlike false r = refl

  budget_far : 8 < line_length text → budget_of text ≡ None
  unfolding budget_of
  budget_far h = rw (ne_eqb (line_length text) 8 (λ e. omega arith)) (unlike (ended text) (number_at text 0 8))

  budget_cut : c ≤ line_length text → budget_of (take c text) ≡ None
  unfolding budget_of
  budget_cut h = rw (cut_unended c text h)

  budget_same : 8 < c → line_length text < c → budget_of (take c text) ≡ budget_of text
  unfolding budget_of
  budget_same g h = rw (same_ended c text h, same_length c text h, number_take c text 0 8 (omega arith))

  by_eight : (x : ℕ) (a t : Bool) → eqb (line_length text) 8 ≡ t → (if a && t then number_at text 0 8 else None) ≡ Some x → line_length text ≡ 8
  by_eight x a true p e = eqb-true (line_length text) 8 p
  by_eight x a false p e =
      let z : None ≡ Some x = sym (unlike a (number_at text 0 8)) ∙ e in
      let y : ◌≡◌ {A = ℕ} 0 1 = cc in
      absurd (omega arith)

  eight : (x : ℕ) → budget_of text ≡ Some x → line_length text ≡ 8
  unfolding budget_of
  eight x e = by_eight x (ended text) (eqb (line_length text) 8) refl e

  module _ (h : 9 + (17 * most_lines + 1 + 8193 + 8193) ≤ c) where
    by_budget_lem : line_length text < c → (r : Option ℕ) → budget_of text ≡ r → by_budget r (after_line (take c text)) ≡ by_budget r (after_line text)
    by_budget_lem l None e = refl
    by_budget_lem l (Some b) e =
        let k : line_length text ≡ 8 = eight b e in
        let m : line_length text + 1 + (c - 9) ≡ c = omega arith in
        rw (after_take c text l (c - 9) m) (choices_take b (c - 9) (after_line text) (omega arith))

    by_first : (t : Bool) → leb c (line_length text) ≡ t → printed (take c text) ≡ printed text
    unfolding printed
    by_first true e =
        let l : c ≤ line_length text = leb-true c (line_length text) e in
        rw (budget_cut l, budget_far (omega arith))
    by_first false e =
        let l : line_length text < c = leb-false c (line_length text) e in
        rw (budget_same (omega arith) l) (by_budget_lem l (budget_of text) refl)

    printed_take : printed (take c text) ≡ printed text
    printed_take = by_first (leb c (line_length text)) refl

pub past_the_job : (text : List ℕ) → printed (take longest_job text) ≡ printed text
past_the_job text = printed_take longest_job text (omega arith)
