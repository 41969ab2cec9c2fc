-- That at most 1,058 lines are looked at loses nothing: any greater number gives the same answer. Assumes nothing.
use Rattle.std.specs.Prelude.{Option, None, Some}
use Prim.Native.Nat.{ℕ, zero, suc, ◌+◌, ◌*◌, ◌≤◌, ◌<◌}
use mathlib.Core.Path.{◌≡◌, refl, sym, ap, ◌∙◌}
use mathlib.Core.Bool.{Bool, true, false}
use mathlib.Core.List.{List, ◌∷◌}
use native.Mathlib.Omega.{arith}
use native.Mathlib.Decide.{ℕ_discrete}
use borrow.Author.Tests.{ltb-true, ltb-false, leb-true, leb-false, lt-ltb, ne_eqb}
use lib.Dec.{ltb, leb}
use lib.ListN.{length, take, drop, length-drop, length-take}
use lib.Seq.{take_all, take-nil, length-take-le}
use Rattle.image.specs.Limits.{most_lines}
use Rattle.image.specs.Layout.{counts, bodies, due}
use Rattle.image.specs.Judge.{Said, say, fault, judged}
use Rattle.image.specs.First.{FirstFault, Faultless, Answers, faulty, short, extra, accepted}
use Rattle.image.proofs.Accepted.{answers, exactly, accepted_has, early_fault, few_said, few_lines, fault_small}
use Rattle.image.proofs.Cut.{same_due, same_fault}
use Rattle.lines.specs.Text.{line_at, before, frames_from, frames, more, settled}
use Rattle.lines.proofs.Texts.{length_text}
use Rattle.lines.proofs.RoundTrip.{text_back, settled_good}

-- fewer lines are the first of more lines
before_take : (l : Option ℕ) (m : ℕ) (xs ys : List ℕ) → xs ≡ take m ys → before l xs ≡ take (suc m) (before l ys)
before_take (Some f) m xs ys e = ap (λ (r : List ℕ). f ∷ r) e
before_take None m xs ys e = sym (take-nil (suc m))

fewer : (bs : List ℕ) (i m n : ℕ) → m ≤ n → frames_from bs i m ≡ take m (frames_from bs i n)
unfolding frames_from
fewer bs i zero n h = refl
fewer bs i (suc m) zero h = absurd (omega arith)
fewer bs i (suc m) (suc n) h = before_take (line_at bs (17 * i)) m _ _ (fewer bs (suc i) m n (omega arith))

-- bytes that are left change no answer but 0 and 6
settled_same : (m : Bool) (k i : ℕ) → (k ≡ 0 → ⊥) → (k ≡ 6 → ⊥) → settled m (say k i) ≡ say k i
unfolding settled
settled_same false k i h g = refl
settled_same true k i h g = rw (ne_eqb k 0 h, ne_eqb k 6 g)

settled_done : (i : ℕ) → settled true (say 0 i) ≡ say 7 i
unfolding settled
settled_done i = refl

-- a table of more lines than an image has, and its first 1,058 lines
module _ (fs : List ℕ) (big : most_lines < length fs) (m : Bool) where
  -- counts are bytes, so the body frames are among them
  few_bodies : bodies fs + 1 < most_lines
  unfolding bodies counts
  few_bodies = omega arith

  cut_length : length (take most_lines fs) ≡ most_lines
  cut_length = length-take-le most_lines fs (omega arith)

  cut_fault : (i : ℕ) → i < most_lines → fault (take most_lines fs) i ≡ fault fs i
  cut_fault i h = same_fault fs most_lines (omega arith) few_bodies i h

  cut_due : due (take most_lines fs) ≡ due fs
  cut_due = same_due fs most_lines (omega arith) few_bodies

  cut_faultless : Faultless fs → Faultless (take most_lines fs)
  cut_faultless f j h = cut_fault j (omega (arith, cut_length)) ∙ f j (omega (arith, cut_length))

  cut_first : (n i : ℕ) → FirstFault fs n i → FirstFault (take most_lines fs) n i
  cut_first n i f =
      let e : i < most_lines = early_fault fs n i f in
      record { there = omega (arith, cut_length); number = cut_fault i e ∙ f.number; some = f.some; before = λ j h. cut_fault j (omega arith) ∙ f.before j h }

  -- due at the cut: the cut is accepted, and more follows; due before it: more follows in both
  cut_extra : Faultless fs → due fs ≤ most_lines → Dec (due fs ≡ most_lines) → settled true (judged (take most_lines fs)) ≡ say 7 (due fs)
  cut_extra f l (yes e) =
      ap (settled true) ((exactly (take most_lines fs)).only _ (accepted (cut_faultless f) (cut_length ∙ sym e ∙ sym cut_due)))
      ∙ settled_done (length (take most_lines fs))
      ∙ ap (say 7) (cut_length ∙ sym e)
  cut_extra f l (no e) =
      ap (settled true) ((exactly (take most_lines fs)).only _ (extra (cut_faultless f) (omega (arith, cut_length, cut_due))))
      ∙ settled_same true 7 (due (take most_lines fs)) (λ z. omega arith) (λ z. omega arith)
      ∙ ap (say 7) cut_due

  by_answer : (s : Said) → Answers fs s → settled true (judged (take most_lines fs)) ≡ settled m s
  by_answer s (faulty n i f) =
      let k : n ≤ 5 = omega (arith, f.number, fault_small fs i) in
      let o : 0 < n = f.some in
      ap (settled true) ((exactly (take most_lines fs)).only (say n i) (faulty n i (cut_first n i f)))
      ∙ settled_same true n i (λ z. omega arith) (λ z. omega arith)
      ∙ sym (settled_same m n i (λ z. omega arith) (λ z. omega arith))
  by_answer s (short f h) = absurd (omega (arith, few_said fs _ (short f h)))
  by_answer s (extra f h) =
      cut_extra f (few_said fs _ (extra f h)) (ℕ_discrete (due fs) most_lines)
      ∙ sym (settled_same m 7 (due fs) (λ z. omega arith) (λ z. omega arith))
  by_answer s (accepted f h) = absurd (omega (arith, few_said fs _ (accepted f h)))

  cut_judged : settled true (judged (take most_lines fs)) ≡ settled m (judged fs)
  cut_judged = by_answer (judged fs) (answers fs)

-- the answer where at most n lines are looked at
abbrev pub looking : List ℕ → ℕ → Said
looking bs n = settled (ltb (17 * length (frames_from bs 0 n)) (length bs)) (judged (frames_from bs 0 n))

all_there : (bs : List ℕ) (n : ℕ) → 17 * length (frames_from bs 0 n) ≤ length bs
all_there bs n =
    omega (arith, ap length (text_back bs 0 n), length_text (frames_from bs 0 n), length-take (17 * length (frames_from bs 0 n)) (drop (17 * 0) bs), length-drop (17 * 0) bs)

module _ (bs : List ℕ) (n : ℕ) (h : most_lines ≤ n) where
  cut : frames_from bs 0 most_lines ≡ take most_lines (frames_from bs 0 n)
  cut = fewer bs 0 most_lines n h

  by_length : (t : Bool) → ltb most_lines (length (frames_from bs 0 n)) ≡ t → looking bs n ≡ looking bs most_lines
  by_length false e = rw (cut ∙ take_all most_lines (frames_from bs 0 n) (ltb-false _ _ e))
  by_length true e =
      let b : most_lines < length (frames_from bs 0 n) = ltb-true most_lines (length (frames_from bs 0 n)) e in
      let l : length (frames_from bs 0 most_lines) ≡ most_lines = ap length cut ∙ cut_length (frames_from bs 0 n) b true in
      let g : 17 * length (frames_from bs 0 most_lines) < length bs = omega (arith, all_there bs n) in
      rw (lt-ltb (17 * length (frames_from bs 0 most_lines)) (length bs) g, cut)
      (sym (cut_judged (frames_from bs 0 n) b (ltb (17 * length (frames_from bs 0 n)) (length bs))))

  pub any_more : looking bs n ≡ looking bs most_lines
  any_more = by_length (ltb most_lines (length (frames_from bs 0 n))) refl

-- so the reader may stop after 1,058 lines: its answer is that of all lines, and where that is 0 its frames are all frames
module _ (bs : List ℕ) where
  few_bytes : length bs ≤ most_lines → frames_from bs 0 (length bs) ≡ frames_from bs 0 most_lines
  few_bytes h =
      fewer bs 0 (length bs) most_lines h ∙ take_all (length bs) (frames_from bs 0 most_lines) (omega (arith, all_there bs most_lines))

  by_bytes : (t : Bool) → leb (length bs) most_lines ≡ t → looking bs (length bs) ≡ looking bs most_lines
  by_bytes true e = rw (few_bytes (leb-true (length bs) most_lines e))
  by_bytes false e =
      let b : most_lines < length bs = leb-false (length bs) most_lines e in
      any_more bs (length bs) (omega arith)

  pub same_answer : settled (more bs) (judged (frames bs)) ≡ looking bs most_lines
  unfolding more frames
  same_answer = by_bytes (leb (length bs) most_lines) refl

  by_good : (t : Bool) → leb (length bs) most_lines ≡ t → (judged (frames_from bs 0 (length bs))).number ≡ 0 → frames_from bs 0 (length bs) ≡ frames_from bs 0 most_lines
  by_good true e a = few_bytes (leb-true (length bs) most_lines e)
  by_good false e a =
      let b : most_lines < length bs = leb-false (length bs) most_lines e in
      sym (fewer bs 0 most_lines (length bs) (omega arith) ∙ take_all most_lines (frames_from bs 0 (length bs)) (omega (arith, (accepted_has (frames_from bs 0 (length bs)) a).count, few_lines (frames_from bs 0 (length bs)))))

  pub same_frames : (settled (more bs) (judged (frames bs))).number ≡ 0 → frames bs ≡ frames_from bs 0 most_lines
  unfolding frames
  same_frames e =
      by_good (leb (length bs) most_lines) refl
      (ap (λ (s : Said). s.number) (sym (settled_good (more bs) (judged (frames_from bs 0 (length bs))) e).1) ∙ e)
