use borrow.Author.Rules.{rules}
use Rattle.phases.proofs.Loops.{freeing_starts, freeing_turn, freeing_end, clearing_end}
use Rattle.phases.proofs.free_all.Goals as goal

pub loop-e-init : goal.loop-e-init
loop-e-init c = search (freeing_starts, rules)

pub loop-e-preserved : goal.loop-e-preserved
loop-e-preserved c =
    let f = c.free_on-still.ensures in
    freeing_turn _ _ _ _ _ _ _ _ _ _ c.loop-e.invariant c.in-Some.ensures.steps f.value f.waiters_after

pub returns-clause-value : goal.returns-clause-value
returns-clause-value c = freeing_end _ _ _ _ _ _ c.loop-e.invariant c.in-None.ensures.steps.0

pub returns-clause-waiters_after : goal.returns-clause-waiters_after
returns-clause-waiters_after c = clearing_end _ _ _ _ _ _ c.loop-e.invariant c.in-None.ensures.steps.0
