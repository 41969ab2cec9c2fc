use Rattle.hexadecimal.specs.Steps.{Read}
use Rattle.hexadecimal.proofs.number_of.Given as goal

abbrev pub invariant-loop-b : goal.invariant-loop-b
invariant-loop-b l = Read l.digits 0 l.b-index l.x
