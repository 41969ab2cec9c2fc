-- What is told, as the definition has it.
use Rattle.kernel.specs.Run.{Answer as Told}
use Rattle.answer.specs.declared.Answer.{Answer}

-- document 01's numbers of an answer
abbrev pub said : Answer → Told
said a = record {
  number = a.number;
  body = a.body;
  place = a.place;
  time = a.time;
  instructions = a.instructions;
  choices = a.choices;
  inputs = a.inputs;
  threads = a.threads;
}
