use Rattle.run.proofs.Ends.{run_told}
use Rattle.turns.specs.Code.{lists_of}
use Rattle.run.proofs.run_from.Goals as goal

pub returns : goal.returns
returns c =
    let a = c.args in
    let j = a.job.now in
    run_told j.table.now j.choices.now j.inputs.now j.firsts.now a.budget _ (lists_of a.s.now) a.s.now.places.now a.cells.now _ _ _ c.start-begun.ensures (rw c.from.ensures at c.machine-n.ensures.value) c.answer_of.ensures
