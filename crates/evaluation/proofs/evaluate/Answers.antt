use Prim.Native.Nat.{◌<◌}
use lib.ListN.{length}
use native.Mathlib.Omega.{arith}
use Rattle.evaluation.proofs.Arms.{choice_there, evaluated_laws}
use borrow.Author.Rules.{rules}
use Rattle.evaluation.proofs.evaluate.Goals as goal

pub overflow_add-result-in-Ok : goal.overflow_add-result-in-Ok
overflow_add-result-in-Ok c =
    let there : c.args.n.chosen < length c.args.choices.now = search (choice_there, rules) in
    record { fits = omega arith }

pub returns-in-Ok : goal.returns-in-Ok
returns-in-Ok c = search (evaluated_laws, rules)

pub returns-in-Err : goal.returns-in-Err
returns-in-Err c = search (evaluated_laws, rules)
