-- No second answer fits what is told. Assumes nothing.
use mathlib.Core.Path.{◌≡◌, refl}
use Rattle.laws.specs.Unique.{one_answer}
use Rattle.kernel.specs.Run.{Answer as Told}
use Rattle.answer.specs.declared.Answer.{Answer}
use Rattle.answer.specs.Answer.{said}

-- the answer that says so
abbrev back : Told → Answer
back t = record {
  number = t.number;
  body = t.body;
  place = t.place;
  time = t.time;
  instructions = t.instructions;
  choices = t.choices;
  inputs = t.inputs;
  threads = t.threads;
}

pub one_told : (t : Told) (a b : Answer) → said a ≡ t → said b ≡ t → a ≡ b
one_told t a b = one_answer said back (λ c. refl) t a b
