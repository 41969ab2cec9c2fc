-- What the stages of a job come to. Nothing public speaks of it.
use Rattle.std.specs.Prelude.{List, ℕ, take, Result, Ok, Err}
use Rattle.answer.specs.Answer.{said}
use Rattle.image.specs.Judge.{Said, say}
use Rattle.program.specs.Printing.{shown, refusal}
use Rattle.job.specs.declared.ran.Ran.{Ran}
use Rattle.job.specs.declared.Refusal.{Refusal}
use Rattle.job.specs.declared.Refusal.TheVariants.{Budget, Choices, Inputs, Image}

-- the number and the line of a refusal: "Missing or malformed job lines are 9 at that line"
abbrev pub reason : Refusal → Said
reason Budget = say 9 0
reason Choices = say 9 1
reason Inputs = say 9 2
reason (Image n i) = say n i

-- what is printed of a run that was made
abbrev pub shows : Ran → List ℕ
shows r = shown (said r.answer) (take r.count r.cells)

-- what is printed of a job
abbrev pub prints : Result Ran Refusal → List ℕ
prints (Ok r) = shows r
prints (Err e) = refusal (reason e).number (reason e).line
