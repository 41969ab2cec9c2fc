use Rattle.std.proofs.Common.{◌≡◌, ◌-◌}
use Rattle.turns.specs.Code.{threads_of, code_of, turns_of, SameSlices}
use Rattle.machine.proofs.machine.Given as goal

abbrev pub invariant-loop : goal.invariant-loop
invariant-loop l =
    (turns_of l.job (threads_of l.initial.s) (l.bound - l.counter) (code_of l.n l.s l.cells) ≡ turns_of l.job (threads_of l.initial.s) l.bound (code_of l.initial.n l.initial.s l.initial.cells)) × (threads_of l.s ≡ threads_of l.initial.s) × SameSlices l.initial.s l.s
