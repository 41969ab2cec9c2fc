use Rattle.std.proofs.Common.{rules}
use Rattle.dues.proofs.Loops.{due_laws}
use Rattle.dues.proofs.take_due.Goals as goal
use Rattle.dues.proofs.take_due.Goals.{then-c-q, else-c-q}

pub loop-i-init : goal.loop-i-init
loop-i-init c = search (due_laws, rules)

pub loop-i-preserved : goal.loop-i-preserved
loop-i-preserved c =
    elim c.if-c-q.branch [ then-c-q w ↦ search (due_laws, rules) | else-c-q w ↦ search (due_laws, rules) ]

pub returns-clause-codes_after : goal.returns-clause-codes_after
returns-clause-codes_after c = search (due_laws, rules)
