-- What a refusal of a run says. Nothing public speaks of it.
use Rattle.std.specs.Prelude.{Err}
use Rattle.image.specs.Judge.{Said, say, said}
use Rattle.run.specs.declared.Refusal.{Refusal}
use Rattle.run.specs.declared.Refusal.TheVariants.{Choices, Inputs, Image}

-- its number and line: "9 job" at the line of the choices or the inputs, else what is said of the image
abbrev pub reason : Refusal → Said
reason Choices = say 9 1
reason Inputs = say 9 2
reason (Image r) = said (Err r)
