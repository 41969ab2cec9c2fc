use Rattle.machine.proofs.Arms.{same_slices, machine_over, machine_turn, machine_done}
use Rattle.turns.proofs.Threads.{turn_many}
use mathlib.Core.Path.{◌∙◌}
use borrow.Author.Rules.{rules}
use Rattle.machine.proofs.machine.Goals as goal

pub returns-then-is_over-clause-value : goal.returns-then-is_over-clause-value
returns-then-is_over-clause-value c = search (machine_over, rules)

pub loop-preserved : goal.loop-preserved
loop-preserved c = (
  machine_turn _ _ _ _ _ _ _ _ _ c.loop.invariant.0 _ c.loop-test.true (rw c.loop.invariant.1 at c.turn_once-n.ensures.value),
  turn_many _ _ _ _ _ _ _ c.turn_once-n.ensures.value ∙ c.loop.invariant.1,
  same_slices c.args.s.now c.loop.s c.turn_once-n.new.s c.loop.invariant.2 c.turn_once-n.ensures.same_slices,
)

pub returns-clause-value : goal.returns-clause-value
returns-clause-value c = search (machine_done, rules)
