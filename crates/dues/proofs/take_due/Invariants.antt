use Rattle.std.proofs.Common.{◌≡◌}
use Rattle.dues.specs.Dues.{over_code, due_to}
use Rattle.dues.proofs.Loops.{map_to}
use Rattle.dues.proofs.take_due.Given as goal

abbrev pub invariant-loop-i : goal.invariant-loop-i
invariant-loop-i l = (l.codes ≡ map_to (over_code l.q) l.i l.initial.codes) × (l.due ≡ due_to l.q l.initial.codes l.i)
