use Rattle.phases.proofs.Loops.{Freeing}
use Rattle.phases.proofs.free_all.Given as goal

abbrev pub invariant-loop-e : goal.invariant-loop-e
invariant-loop-e l = Freeing l.events l.initial.waiters l.waiting l.e-iterator.left l.still l.waiters
