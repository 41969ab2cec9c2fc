-- Laws of the stages from a job's bytes to the printed ones, as the code's returns have them. Assumes nothing.
use Prim.Native.Nat.{ℕ, ◌≤◌, ◌<◌}
use mathlib.Core.Path.{◌≡◌, refl, sym, ap, ◌∙◌}
use mathlib.Core.Bool.{Bool, true, false}
use mathlib.Core.List.{List}
use native.Mathlib.Omega.{arith}
use borrow.Author.Tests.{lt-ltb, le-ltb, leb-true, leb-false, eq-eqb, ne_eqb}
use lib.Dec.{leb, ltb}
use lib.ListN.{length, get_or, take, drop, replicate, length-append}
use lib.Seq.{take_at, take_all, length-take-le}
use Rattle.std.specs.Prelude.{if◌then◌else◌, Option, None, Some, unwrap_or, min, Result, Ok, Err, ok_or, MatchOption}
use Rattle.laws.specs.Lists.{over}
use Rattle.frame.specs.declared.Frame.{Frame}
use Rattle.frame.specs.Fields.{fields}
use Rattle.image.specs.Limits.{most_cells, most_lines, most_choices, most_inputs}
use Rattle.image.specs.Layout.{counts}
use Rattle.image.specs.Judge.{Said, judged}
use Rattle.image.proofs.Accepted.{accepted_has}
use Rattle.lines.specs.Text.{frames, more, settled, Outcome as Read, outcome, read_as, reading}
use Rattle.lines.proofs.RoundTrip.{settled_good}
use Rattle.lines.proofs.Few.{read_few}
use Rattle.kernel.specs.Run.{Answer, Outcome as Ran, asked}
use Rattle.kernel.specs.Machine.{job_of}
use Rattle.program.specs.JobLines.{after_line, budget_of, numbers_of}
use Rattle.program.specs.Printing.{shown, refusal, most_printed}
use Rattle.program.specs.Whole.{first_cells, from_table, by_image, from_image, from_inputs, from_choices, printed, longest_job, Written, wrote, put, shown_in, answered}
use Rattle.program.proofs.Cap.{past_the_job}
use Rattle.printing.proofs.Puts.{shown_is}

-- the run of a table, printed
pub table_shown : (t ch ins cs : List ℕ) (b : ℕ) (a : Answer) (f : Frame) → record { answer = a; cells = cs } ≡ asked (job_of t ch ins b) (replicate most_cells 0) → f ≡ fields (get_or t 0 0) → shown a (take f.imm cs) ≡ from_table (job_of t ch ins b)
unfolding from_table counts
table_shown t ch ins cs b a f e g =
    ap (λ (r : Ran). first_cells f.imm r) e
    ∙ ap (λ (h : Frame). first_cells h.imm (asked (job_of t ch ins b) (replicate most_cells 0))) g

-- what reading leaves
module _ (bs table : List ℕ) (h : most_lines ≤ length table) where
  says : Said
  says = settled (more bs) (judged (frames bs))

  read_as_lem : reading bs table ≡ read_as says (frames bs) table
  unfolding reading says
  read_as_lem = rw (le-ltb (length table) most_lines h)

  by_good : (r : Read) → r ≡ read_as says (frames bs) table → r.says.number ≡ 0 → (judged (take r.says.line r.buffer)).number ≡ 0
  unfolding says
  by_good r e z =
      let n : says.number ≡ 0 = ap (λ (o : Read). o.says.number) (sym e) ∙ z in
      let g : (more bs ≡ false) × (says ≡ judged (frames bs)) = settled_good (more bs) (judged (frames bs)) n in
      let a : (judged (frames bs)).number ≡ 0 = ap (λ (s : Said). s.number) (sym g.1) ∙ n in
      let i : length (frames bs) ≡ says.line = sym (ap (λ (s : Said). s.line) g.1 ∙ (accepted_has (frames bs) a).count) in
      let t : take says.line (over (frames bs) table) ≡ frames bs = take_at (frames bs) _ says.line i in
      rw (e, eq-eqb says.number 0 n, t) a

-- an image, from its text
module _ (bs table : List ℕ) (h : most_lines ≤ length table) (s : Said) (t : List ℕ) (e : outcome s t ≡ reading bs table) where
  pub line_few : (i : ℕ) → i ≡ s.line → i ≤ most_lines
  line_few i q = omega (arith, ap (λ (o : Read). o.says.line) e, read_few bs table)

  pub lines_counted : (i : ℕ) → i ≡ s.line → most_lines ≤ length t → i ≡ length (take i t)
  lines_counted i q l = sym (length-take-le i t (omega (arith, line_few i q)))

  pub table_good : (n i : ℕ) → n ≡ s.number → n ≡ 0 → i ≡ s.line → (judged (take i t)).number ≡ 0
  table_good n i p z q = rw q (by_good bs table h (outcome s t) (e ∙ read_as_lem bs table h) (sym p ∙ z))

module _ (bs ch ins : List ℕ) (b : ℕ) (s : Said) (t : List ℕ) (e : outcome s t ≡ reading bs (replicate most_lines 0)) (n i : ℕ) (p : n ≡ s.number) (q : i ≡ s.line) where
  pub image_read : (l : List ℕ) → n ≡ 0 → l ≡ from_table (job_of (take i t) ch ins b) → l ≡ from_image b ch ins bs
  unfolding from_image
  image_read l z g =
      let x : by_image b ch ins (outcome s t) ≡ from_table (job_of (take i t) ch ins b) = rw (eq-eqb s.number 0 (sym p ∙ z), q) in
      g ∙ sym x ∙ ap (by_image b ch ins) e

  pub image_refused : (n ≡ 0 → ⊥) → refusal n i ≡ from_image b ch ins bs
  unfolding from_image
  image_refused z =
      let x : by_image b ch ins (outcome s t) ≡ refusal n i = rw (ne_eqb s.number 0 (λ y. z (p ∙ y)), p, q) in
      sym x ∙ ap (by_image b ch ins) e

-- what a line that gave nothing, or something, means for the step after it
module _ {A E : Type 0} (o : Option A) (e : E) (P : Type 0) (Q : A → Type 0) where
  pub line_bad : (x : E) → MatchOption o P Q → Err x ≡ ok_or o e → (x ≡ e) × P
  line_bad x m g = bad o m g
    where
      bad : (o : Option A) → MatchOption o P Q → ◌≡◌ {A = Result A E} (Err x) (ok_or o e) → (x ≡ e) × P
      bad None m g = (cc, m)
      bad (Some y) m g =
          let z : ◌≡◌ {A = ℕ} 0 1 = cc in
          absurd (omega arith)

  pub line_good : (x : A) → MatchOption o P Q → Ok x ≡ ok_or o e → Q x
  line_good x m g = good o m g
    where
      good : (o : Option A) → MatchOption o P Q → ◌≡◌ {A = Result A E} (Ok x) (ok_or o e) → Q x
      good None m g =
          let z : ◌≡◌ {A = ℕ} 0 1 = cc in
          absurd (omega arith)
      good (Some y) m g =
          let z : x ≡ y = cc in
          rw z m

-- the inputs, the choices, the budget
module _ (text : List ℕ) (b : ℕ) where
  pub inputs_bad : (cs : List ℕ) → numbers_of 8 most_inputs text ≡ None → refusal 9 2 ≡ from_inputs b cs text
  unfolding from_inputs
  inputs_bad cs e = rw e

  pub inputs_read : (cs is rest l : List ℕ) → numbers_of 8 most_inputs text ≡ Some is → rest ≡ after_line text → l ≡ from_image b cs is rest → l ≡ from_inputs b cs text
  unfolding from_inputs
  inputs_read cs is rest l e g q = rw (e, ← g) q

  pub choices_bad : numbers_of 2 most_choices text ≡ None → refusal 9 1 ≡ from_choices b text
  unfolding from_choices
  choices_bad e = rw e

  pub choices_read : (cs rest l : List ℕ) → numbers_of 2 most_choices text ≡ Some cs → rest ≡ after_line text → l ≡ from_inputs b cs rest → l ≡ from_choices b text
  unfolding from_choices
  choices_read cs rest l e g q = rw (e, ← g) q

module _ (text : List ℕ) where
  pub budget_bad : budget_of text ≡ None → refusal 9 0 ≡ printed text
  unfolding printed
  budget_bad e = rw e

  pub budget_read : (b : ℕ) (rest l : List ℕ) → budget_of text ≡ Some b → rest ≡ after_line text → l ≡ from_choices b rest → l ≡ printed text
  unfolding printed
  budget_read b rest l e g q = rw (e, ← g) q

-- the answer, or nothing where there is no room
pub no_room : (job out : List ℕ) → length out < most_printed → wrote None out ≡ answered job out
unfolding answered
no_room job out h = rw (lt-ltb (length out) most_printed h)

-- what stands past the longest job is left out
past_end : (job : List ℕ) (end : ℕ) → end ≡ min (length job) longest_job → printed (take end job) ≡ printed job
past_end job end e = by (leb longest_job (length job)) refl
  where
    by : (b : Bool) → leb longest_job (length job) ≡ b → printed (take end job) ≡ printed job
    by true g =
        let m : end ≡ longest_job = omega (arith, leb-true longest_job (length job) g) in
        rw m (past_the_job job)
    by false g =
        let m : length job ≤ end = omega (arith, leb-false longest_job (length job) g) in
        rw (take_all end job m)

pub room : (job out : List ℕ) (end : ℕ) (a : Answer) (cells : List ℕ) (w : Written) → end ≡ min (length job) longest_job → most_printed ≤ length out → length cells ≤ most_cells → w ≡ shown_in a cells out → shown a cells ≡ printed (take end job) → w ≡ answered job out
unfolding answered
room job out end a cells w e h f g q =
    rw (le-ltb (length out) most_printed h) (shown_is a cells out w (omega arith) g ∙ ap (λ (p : List ℕ). put p out) (q ∙ past_end job end e))

-- the bytes written stand in the buffer
module _ (job out l : List ℕ) where
  by_room : (r : Option ℕ) (b : Bool) → wrote r l ≡ (if b then wrote None out else put (printed job) out) → unwrap_or r 0 ≤ length l
  by_room None b e = omega arith
  by_room (Some n) true e =
      let c : Some n ≡ None = ap (λ (w : Written). w.count) e in
      let z : ◌≡◌ {A = ℕ} 0 1 = cc in
      absurd (omega arith)
  by_room (Some n) false e =
      let c : Some n ≡ Some (length (printed job)) = ap (λ (w : Written). w.count) e in
      let m : n ≡ length (printed job) = cc in
      omega (arith, ap (λ (w : Written). length w.bytes) e, length-append (printed job) (drop (length (printed job)) out))

  pub count_within : (r : Option ℕ) → wrote r l ≡ answered job out → unwrap_or r 0 ≤ length l
  unfolding answered
  count_within r e = by_room r (ltb (length out) most_printed) e

  pub count_counted : (r : Option ℕ) → wrote r l ≡ answered job out → unwrap_or r 0 ≡ length (take (unwrap_or r 0) l)
  count_counted r e = sym (length-take-le (unwrap_or r 0) l (count_within r e))
