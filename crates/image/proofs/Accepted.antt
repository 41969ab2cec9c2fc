-- What the judge's answers tell: each is given exactly when, and what an accepted table has. Assumes nothing.
use Prim.Native.Nat.{ℕ, zero, suc, ◌+◌, ◌-◌, ◌≤◌, ◌<◌}
use mathlib.Core.Path.{◌≡◌, refl, sym, ◌∙◌}
use mathlib.Core.Bool.{Bool, true, false, ◌&&◌}
use mathlib.Core.List.{List}
use native.Mathlib.Omega.{arith}
use native.Mathlib.Decide.{ℕ_discrete}
use native.Mathlib.Numerals.{add-one}
use borrow.Author.Tests.{ltb-true, ltb-false, leb-true}
use lib.Dec.{eqb, ltb, leb}
use lib.ListN.{length}
use Rattle.std.specs.Prelude.{if◌then◌else◌}
use Rattle.laws.specs.Choice.{between, and_left, and_right}
use Rattle.frame.specs.Fault.{instruction_fault}
use Rattle.frame.specs.Laws.{fault_small as instruction_small}
use Rattle.image.specs.Limits.{most_threads, most_events, most_updates, most_cells, most_instructions, most_lines}
use Rattle.image.specs.Layout.{frame, counts, kind_of, bodies, len, lengths, first, due, body_at}
use Rattle.image.specs.Judge.{Said, say, header_fits, body_fits, header_fault, body_fault, fault, ending, or_else, rest, look, judged}
use Rattle.image.specs.First.{FirstFault, Faultless, Answers, faulty, short, extra, accepted, Exactly}
use Rattle.image.proofs.Walk.{fault_header, fault_body, fault_instruction, fault_past, first_next, first_grows, due_above, whole, rest_fine, rest_fault, rest_end, ends_short, ends_extra, ends_done}

-- a test that gave 0 and not a number above it
none : (t : Bool) (k : ℕ) → ◌≡◌ {A = ℕ} (if t then 0 else suc k) 0 → t ≡ true
none true k e = refl
none false k e = absurd (omega arith)

second_fourth : (a b c d e : Bool) → a && b && c && d && e ≡ true → (b ≡ true) × (d ≡ true)
second_fourth a b c d e p =
    let q : a && b && c && d ≡ true = and_left (a && b && c && d) e p in
    (and_right a b (and_left (a && b) c (and_left (a && b && c) d q)), and_right (a && b && c) d q)

-- the counts of a header without a fault
module _ (fs : List ℕ) (h : fault fs 0 ≡ 0) where
  header_good : header_fits (frame fs 0) ≡ true
  unfolding header_fault
  header_good = none (header_fits (frame fs 0)) 1 (sym (fault_header fs) ∙ h)

  pub few_bodies : bodies fs ≤ 1 + most_threads + most_updates
  unfolding bodies counts header_fits
  few_bodies =
      let g : (leb (frame fs 0).d most_threads ≡ true) × (leb (frame fs 0).b most_updates ≡ true) = second_fourth (eqb (frame fs 0).op 0xa0) _ (leb (frame fs 0).a most_events) _ (between 1 (frame fs 0).imm most_cells) header_good in
      omega (arith, leb-true (frame fs 0).d most_threads g.0, leb-true (frame fs 0).b most_updates g.1)

  pub record Counted : Type 0 where
    pub threads : (frame fs 0).d ≤ most_threads
    pub events : (frame fs 0).a ≤ most_events
    pub updates : (frame fs 0).b ≤ most_updates
    pub cells : (frame fs 0).imm ≤ most_cells

  pub counted : Counted
  unfolding header_fits
  counted =
      let d : Bool = leb (frame fs 0).d most_threads in
      let a : Bool = leb (frame fs 0).a most_events in
      let b : Bool = leb (frame fs 0).b most_updates in
      let o : Bool = eqb (frame fs 0).op 0xa0 in
      let i : Bool = between 1 (frame fs 0).imm most_cells in
      let q : o && d && a && b ≡ true = and_left (o && d && a && b) i header_good in
      let p : o && d && a ≡ true = and_left (o && d && a) b q in
      record {
        threads = leb-true (frame fs 0).d most_threads (and_right o d (and_left (o && d) a p));
        events = leb-true (frame fs 0).a most_events (and_right (o && d) a p);
        updates = leb-true (frame fs 0).b most_updates (and_right (o && d && a) b q);
        cells = leb-true (frame fs 0).imm most_cells (and_right (leb 1 (frame fs 0).imm) (leb (frame fs 0).imm most_cells) (and_right (o && d && a && b) i header_good));
      }

-- and of the body frames: few lines are due
module _ (fs : List ℕ) (nf : (i : ℕ) → i ≤ bodies fs → fault fs i ≡ 0) where
  some_body : 0 < bodies fs
  unfolding bodies
  some_body = omega arith

  pub few_instructions : lengths fs (bodies fs) ≤ most_instructions
  unfolding body_fault
  few_instructions =
      let o : 0 < bodies fs = some_body in
      let k : suc (bodies fs - 1) ≡ bodies fs = omega arith in
      let l : bodies fs - 1 + 1 ≤ bodies fs = omega arith in
      let t : bodies fs - 1 < bodies fs = omega arith in
      let n : leb (lengths fs (suc (bodies fs - 1))) most_instructions ≡ true =
      and_right (body_fits (frame fs (bodies fs - 1 + 1))) (leb (lengths fs (suc (bodies fs - 1))) most_instructions)
      (none (body_fits (frame fs (bodies fs - 1 + 1)) && leb (lengths fs (suc (bodies fs - 1))) most_instructions) 2
      (sym (fault_body fs (bodies fs - 1) t) ∙ nf (bodies fs - 1 + 1) l)) in
      rw k at (leb-true (lengths fs (suc (bodies fs - 1))) most_instructions n)

  pub few_due : due fs ≤ most_lines
  unfolding due first
  few_due = omega (arith, few_bodies fs (nf 0 (omega arith)), few_instructions)

module _ (fs : List ℕ) where
  -- what the judge says answers the table
  by_end : Faultless fs → (s x : Bool) → ltb (length fs) (due fs) ≡ s → ltb (due fs) (length fs) ≡ x → Answers fs (if s then say 6 (length fs) else (if x then say 7 (due fs) else say 0 (length fs)))
  by_end f true x p q = short f (ltb-true (length fs) (due fs) p)
  by_end f false true p q = extra f (ltb-true (due fs) (length fs) q)
  by_end f false false p q =
      accepted f (omega (arith, ltb-false (length fs) (due fs) p, ltb-false (due fs) (length fs) q))

  at_end_lem : Faultless fs → Answers fs (ending fs)
  unfolding ending
  at_end_lem f = by_end f (ltb (length fs) (due fs)) (ltb (due fs) (length fs)) refl refl

  one_more : (i : ℕ) → ((j : ℕ) → j < i → fault fs j ≡ 0) → fault fs i ≡ 0 → (j : ℕ) → j < suc i → Dec (j ≡ i) → fault fs j ≡ 0
  one_more i f e j h (yes q) = rw q e
  one_more i f e j h (no q) = f j (omega arith)

  by_fault : (i k : ℕ) (s : Said) → fault fs i ≡ k → i < length fs → ((j : ℕ) → j < i → fault fs j ≡ 0) → (fault fs i ≡ 0 → Answers fs s) → Answers fs (or_else k i s)
  by_fault i zero s e h f g = g e
  by_fault i (suc k) s e h f g = faulty (suc k) i (record { there = h; number = e; some = omega arith; before = f })

  look_answers : (i n : ℕ) → i + n ≡ length fs → ((j : ℕ) → j < i → fault fs j ≡ 0) → Answers fs (look fs i n)
  unfolding look
  look_answers i zero e f = at_end_lem (λ j h. f j (omega arith))
  look_answers i (suc n) e f =
      by_fault i (fault fs i) _ refl (omega arith) f
      (λ q. look_answers (suc i) n (omega arith) (λ j h. one_more i f q j h (ℕ_discrete j i)))

  pub answers : Answers fs (judged fs)
  unfolding judged
  answers = look_answers 0 (length fs) (omega arith) (λ j h. absurd (omega arith))

  -- and nothing else does
  to_line : (i : ℕ) → i ≤ length fs → ((j : ℕ) → j < i → fault fs j ≡ 0) → judged fs ≡ rest fs i
  to_line zero h f = whole fs
  to_line (suc i) h f =
      to_line i (omega arith) (λ j l. f j (omega arith))
      ∙ rw (sym (add-one i)) (rest_fine fs i (omega arith) (f i (omega arith)))

  at_fault : (n i : ℕ) → FirstFault fs n i → judged fs ≡ say n i
  at_fault zero i f = absurd (omega (arith, f.some))
  at_fault (suc n) i f = to_line i (omega (arith, f.there)) f.before ∙ sym (rest_fault fs i n f.there f.number)

  faultless_ends : Faultless fs → judged fs ≡ ending fs
  faultless_ends f = to_line (length fs) (omega arith) f ∙ rest_end fs (length fs) (omega arith)

  only_these : (s : Said) → Answers fs s → judged fs ≡ s
  only_these s (faulty n i f) = at_fault n i f
  only_these s (short f h) = faultless_ends f ∙ sym (ends_short fs h)
  only_these s (extra f h) = faultless_ends f ∙ sym (ends_extra fs h)
  only_these s (accepted f h) = faultless_ends f ∙ sym (ends_done fs (sym h))

  -- The judge's answer, exactly when.
  pub exactly : Exactly fs
  exactly = record { says = answers; only = only_these }

  -- an answer of 0
  pub record Accepted (s : Said) : Type 0 where
    pub faultless : Faultless fs
    pub all_due : length fs ≡ due fs
    pub count : s.line ≡ length fs

  by_number : (s : Said) → Answers fs s → s.number ≡ 0 → Accepted s
  by_number s (faulty n i f) e = absurd (omega (arith, f.some))
  by_number s (short f h) e = absurd (omega arith)
  by_number s (extra f h) e = absurd (omega arith)
  by_number s (accepted f h) e = record { faultless = f; all_due = h; count = refl }

  pub accepted_has : (judged fs).number ≡ 0 → Accepted (judged fs)
  accepted_has e = by_number (judged fs) answers e

  pub faultless_due : Faultless fs → due fs ≤ length fs → due fs ≤ most_lines
  faultless_due f h = few_due fs (λ i l. f i (omega (arith, due_above fs)))

  -- few lines are looked at before something is said
  by_body : (n : ℕ) → ((j : ℕ) → j < n → fault fs j ≡ 0) → (bodies fs < n → n < most_lines) → Dec (n ≡ 0) → (b : Bool) → ltb (bodies fs) n ≡ b → n < most_lines
  by_body n f g (yes e) b p = omega arith
  by_body n f g (no e) true p = g (ltb-true (bodies fs) n p)
  by_body n f g (no e) false p =
      omega (arith, ltb-false (bodies fs) n p, few_bodies fs (f 0 (omega arith)))

  early : (n : ℕ) → ((j : ℕ) → j < n → fault fs j ≡ 0) → n < due fs → n < most_lines
  early n f h =
      by_body n f (λ l. omega (arith, few_due fs (λ i m. f i (omega arith)))) (ℕ_discrete n 0) (ltb (bodies fs) n) refl

  not_past : (n i : ℕ) → FirstFault fs n i → (b : Bool) → ltb i (due fs) ≡ b → i < due fs
  not_past n i f true p = ltb-true i (due fs) p
  not_past n i f false p =
      absurd (omega (arith, f.some, f.number, fault_past fs i (ltb-false i (due fs) p)))

  pub early_fault : (n i : ℕ) → FirstFault fs n i → i < most_lines
  early_fault n i f = early i f.before (not_past n i f (ltb i (due fs)) refl)

  pub few_said : (s : Said) → Answers fs s → s.line ≤ most_lines
  few_said s (faulty n i f) = omega (arith, early_fault n i f)
  few_said s (short f h) = omega (arith, early (length fs) f h)
  few_said s (extra f h) = faultless_due f (omega arith)
  few_said s (accepted f h) = rw h (faultless_due f (omega arith))

  pub few_lines : (judged fs).line ≤ most_lines
  few_lines = few_said (judged fs) answers

  -- a fault's number is at most 5
  most : (t : Bool) (a b : ℕ) → a ≤ 5 → b ≤ 5 → ◌≤◌ (if t then a else b) 5
  most true a b h g = h
  most false a b h g = g

  pub fault_small : (i : ℕ) → fault fs i ≤ 5
  unfolding fault header_fault body_fault
  fault_small i =
      most (eqb i 0) _ _ (most (header_fits (frame fs 0)) 0 2 (omega arith) (omega arith))
      (most (leb i (bodies fs)) _ _ (most (body_fits (frame fs (i - 1 + 1)) && leb (lengths fs (suc (i - 1))) most_instructions) 0 3 (omega arith) (omega arith))
      (most (ltb i (due fs)) _ _ (instruction_small (counts fs) (kind_of (counts fs) (body_at fs i)) (len fs (body_at fs i)) (frame fs i)) (omega arith)))

  -- what an accepted table promises: no instruction has a fault
  pub fine_instruction : (judged fs).number ≡ 0 → (k p : ℕ) → k < bodies fs → p < len fs k → instruction_fault (counts fs) (kind_of (counts fs) k) (len fs k) (frame fs (first fs k + p)) ≡ 0
  unfolding due
  fine_instruction a k p h l =
      let r : Accepted (judged fs) = accepted_has a in
      let b : first fs k + p < first fs (suc k) = omega (arith, first_next fs k) in
      let d : first fs k + p < length fs = omega (arith, r.all_due, first_grows fs (suc k) (bodies fs) h) in
      sym (fault_instruction fs (first fs k + p) k h (omega arith) b) ∙ r.faultless (first fs k + p) d
