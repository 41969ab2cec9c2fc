use Rattle.std.proofs.Common.{[], arith, ap, ◌∙◌}
use Rattle.std.proofs.Math.ListN.{length-take}
use Rattle.program.specs.Printing.{shown}
use Rattle.job.proofs.Stages.{room}
use Rattle.job.proofs.answer.Goals as goal

pub returns-in-Ok : goal.returns-in-Ok
returns-in-Ok c =
    room _ _ _ _ _ _ c.min-end.ensures (omega arith) (omega (arith, length-take c.in-Ok.ran.count c.in-Ok.ran.cells, c.in-Ok.ran.within)) c.show.ensures c.in-Ok.ensures

pub returns-in-Err : goal.returns-in-Err
returns-in-Err c =
    room _ _ _ _ _ _ c.min-end.ensures (omega arith) (omega arith) c.show-in-Err.ensures (ap (λ a. shown a []) c.answer.ensures ∙ c.in-Err.ensures)
