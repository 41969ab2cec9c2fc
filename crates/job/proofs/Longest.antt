-- No answer is longer than the longest. Assumes nothing.
use Prim.Native.Nat.{ℕ, ◌+◌, ◌*◌, ◌≤◌}
use mathlib.Core.Path.{◌≡◌, refl}
use mathlib.Core.Bool.{Bool, true, false}
use mathlib.Core.List.{List, [], ◌++◌}
use native.Mathlib.Omega.{arith}
use borrow.Author.Tests.{eqb-true}
use lib.Dec.{eqb}
use lib.ListN.{length, get_or, take, replicate, length-append, length-take, length-replicate}
use Rattle.std.specs.Prelude.{if◌then◌else◌, Option, None, Some}
use Rattle.laws.specs.Choice.{between}
use Rattle.frame.specs.Fields.{fields}
use Rattle.image.specs.Limits.{most_cells, most_lines, most_choices, most_inputs}
use Rattle.image.specs.Layout.{counts}
use Rattle.image.specs.Judge.{judged}
use Rattle.lines.specs.Text.{Outcome, reading}
use Rattle.kernel.specs.Run.{Answer, asked}
use Rattle.kernel.specs.Machine.{job_of}
use Rattle.run.proofs.Ends.{few_counts}
use Rattle.program.specs.JobLines.{after_line, budget_of, numbers_of}
use Rattle.program.specs.Printing.{answer_line, cell_lines, shown, refusal, most_printed}
use Rattle.program.specs.Whole.{from_table, from_image, by_inputs, from_inputs, by_choices, from_choices, by_budget, printed}
use Rattle.printing.proofs.Puts.{length_line, length_cells}
use Rattle.job.proofs.Stages.{table_good}

length_shown : (a : Answer) (cells : List ℕ) → length (shown a cells) ≤ 44 + 9 * length cells
unfolding shown
length_shown a cells = by (between 1 a.number 9)
  where
    by : (b : Bool) → length (answer_line a ++ (if b then [] else cell_lines cells)) ≤ 44 + 9 * length cells
    by true = omega (arith, length-append (answer_line a) [], length_line a)
    by false = omega (arith, length-append (answer_line a) (cell_lines cells), length_line a, length_cells cells)

refusal_short : (n i : ℕ) → length (refusal n i) ≤ most_printed
refusal_short n i = omega (arith, length_shown (record { number = n; body = 0xff; place = i; time = 0; instructions = 0; choices = 0; inputs = 0; threads = 0 }) [])

table_short : (t ch ins : List ℕ) (b : ℕ) → (judged t).number ≡ 0 → length (from_table (job_of t ch ins b)) ≤ most_printed
unfolding from_table counts
table_short t ch ins b good =
    omega (arith, (few_counts t good (fields (get_or t 0 0)) refl).3, length_shown (asked (job_of t ch ins b) (replicate most_cells 0)).answer (take (fields (get_or t 0 0)).imm (asked (job_of t ch ins b) (replicate most_cells 0)).cells), length-take (fields (get_or t 0 0)).imm (asked (job_of t ch ins b) (replicate most_cells 0)).cells)

module _ (b : ℕ) (cs : List ℕ) where
  by_image : (is image : List ℕ) (r : Outcome) → r ≡ reading image (replicate most_lines 0) → (z : Bool) → eqb r.says.number 0 ≡ z → length (if z then from_table (job_of (take r.says.line r.buffer) cs is b) else refusal r.says.number r.says.line) ≤ most_printed
  by_image is image r e true p =
      table_short (take r.says.line r.buffer) cs is b
      (table_good image (replicate most_lines 0) (omega (arith, length-replicate {A = ℕ} most_lines 0)) r.says r.buffer e r.says.number r.says.line refl (eqb-true r.says.number 0 p) refl)
  by_image is image r e false p = refusal_short r.says.number r.says.line

  image_short : (is image : List ℕ) → length (from_image b cs is image) ≤ most_printed
  unfolding from_image
  image_short is image =
      by_image is image (reading image (replicate most_lines 0)) refl (eqb (reading image (replicate most_lines 0)).says.number 0) refl

  by_inputs_lem : (r : Option (List ℕ)) (rest : List ℕ) → length (by_inputs b cs r rest) ≤ most_printed
  by_inputs_lem (Some is) rest = image_short is rest
  by_inputs_lem None rest = refusal_short 9 2

  inputs_short : (text : List ℕ) → length (from_inputs b cs text) ≤ most_printed
  unfolding from_inputs
  inputs_short text = by_inputs_lem (numbers_of 8 most_inputs text) (after_line text)

by_choices_lem : (b : ℕ) (r : Option (List ℕ)) (rest : List ℕ) → length (by_choices b r rest) ≤ most_printed
by_choices_lem b (Some cs) rest = inputs_short b cs rest
by_choices_lem b None rest = refusal_short 9 1

choices_short : (b : ℕ) (text : List ℕ) → length (from_choices b text) ≤ most_printed
unfolding from_choices
choices_short b text = by_choices_lem b (numbers_of 2 most_choices text) (after_line text)

by_budget_lem : (r : Option ℕ) (rest : List ℕ) → length (by_budget r rest) ≤ most_printed
by_budget_lem (Some b) rest = choices_short b rest
by_budget_lem None rest = refusal_short 9 0

pub longest_answer : (job : List ℕ) → length (printed job) ≤ most_printed
unfolding printed
longest_answer job = by_budget_lem (budget_of job) (after_line job)
