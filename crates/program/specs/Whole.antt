-- "The program and one job whole": from a job's bytes to the printed ones. `printed`, below, takes the job's lines in document 01's order;
-- each stage stands above the one that hands over to it.
use Rattle.std.specs.Prelude.{ℕ, ◌+◌, ◌*◌, List, eqb, ltb, leb, length, take, replicate, if◌then◌else◌, Option, None, Some}
use Rattle.laws.specs.Lists.{over}
use Rattle.image.specs.Limits.{most_cells, most_lines, most_choices, most_inputs}
use Rattle.lines.specs.Text.{Outcome as Read, reading}
use Rattle.kernel.specs.Design.{cells}
use Rattle.kernel.specs.Machine.{Job, job_of}
use Rattle.kernel.specs.Run.{Answer, Outcome as Ran, asked}
use Rattle.program.specs.JobLines.{after_line, budget_of, numbers_of}
use Rattle.program.specs.Printing.{shown, refusal, most_printed}

-- what is printed of a run: "then, unless refused, each of the C cells", which are the first
abbrev pub first_cells : ℕ → Ran → List ℕ
first_cells c r = shown r.answer (take c r.cells)

-- the run, on cells as many as a design has at the most
unfoldable pub from_table : Job → List ℕ
from_table j = first_cells (cells j.table) (asked j (replicate most_cells 0))

-- "then the image": a read into 1,058 words answers 0 with the count of frames, which are the first words; else it is refused
abbrev pub by_image : (budget : ℕ) → (choices inputs : List ℕ) → Read → List ℕ
by_image b cs is r =
    if eqb r.says.number 0 then from_table (job_of (take r.says.line r.buffer) cs is b)
    else refusal r.says.number r.says.line

unfoldable pub from_image : (budget : ℕ) → (choices inputs image : List ℕ) → List ℕ
from_image b cs is image = by_image b cs is (reading image (replicate most_lines 0))

-- "Missing or malformed job lines are 9 at that line, the first such, before the image is looked at."
-- "line 2, the inputs, eight digits each; then the image"
abbrev pub by_inputs : (budget : ℕ) → (choices : List ℕ) → Option (List ℕ) → (rest : List ℕ) → List ℕ
by_inputs b cs (Some is) rest = from_image b cs is rest
by_inputs b cs None rest = refusal 9 2

unfoldable pub from_inputs : (budget : ℕ) → (choices text : List ℕ) → List ℕ
from_inputs b cs text = by_inputs b cs (numbers_of 8 most_inputs text) (after_line text)

-- "line 1, the choices, two digits each"
abbrev pub by_choices : (budget : ℕ) → Option (List ℕ) → (rest : List ℕ) → List ℕ
by_choices b (Some cs) rest = from_inputs b cs rest
by_choices b None rest = refusal 9 1

unfoldable pub from_choices : (budget : ℕ) → (text : List ℕ) → List ℕ
from_choices b text = by_choices b (numbers_of 2 most_choices text) (after_line text)

-- "line 0, the budget in eight digits"
abbrev pub by_budget : Option ℕ → (rest : List ℕ) → List ℕ
by_budget (Some b) rest = from_choices b rest
by_budget None rest = refusal 9 0

unfoldable pub printed : List ℕ → List ℕ
printed job = by_budget (budget_of job) (after_line job)

-- the bytes of the longest job, which are those of its three lines and of its image, and one more; what stands past them changes nothing
abbrev pub longest_job : ℕ
longest_job = 9 + (2 * most_choices + 1) + (8 * most_inputs + 1) + 17 * most_lines + 1

-- the count of bytes written, none where there is no room for them, and the lent buffer afterwards
pub record Written : Type 0 where
  pub count : Option ℕ
  pub bytes : List ℕ

abbrev pub wrote : Option ℕ → List ℕ → Written
wrote n l = record { count = n; bytes = l }

-- a text at the start of a buffer, the rest of it untouched
abbrev pub put : (text out : List ℕ) → Written
put text out = wrote (Some (length text)) (over text out)

-- an answer and cells shown, in a buffer that holds the lines of both; one that does not is left as it was
unfoldable pub shown_in : Answer → (cells out : List ℕ) → Written
shown_in a cells out = if leb (44 + 9 * length cells) (length out) then put (shown a cells) out else wrote None out

-- what is printed, in a buffer that holds the longest answer; one that does not is left as it was
unfoldable pub answered : (job out : List ℕ) → Written
answered job out = if ltb (length out) most_printed then wrote None out else put (printed job) out
