use Rattle.std.proofs.Common.{ap, ◌∙◌, Some}
use Rattle.std.proofs.lemmas.List.{map-id}
use Rattle.std.proofs.lemmas.Result.{err_from_is_err_and}
use Rattle.job.proofs.Stages.{line_bad, line_good, inputs_bad, inputs_read}
use Rattle.job.proofs.from_inputs.Goals as goal

pub returns-in_err-n : goal.returns-in_err-n
returns-in_err-n c =
    let p = err_from_is_err_and c.from_residual.result c.from_residual.ensures.1 in
    let bad = line_bad _ _ _ _ _ c.numbers_of.ensures c.in_err-n.ensures.value in
    rw (p.1, p.2, bad.0) (inputs_bad _ _ _ bad.1)

pub returns : goal.returns
returns c =
    let good = line_good _ _ _ _ _ c.numbers_of.ensures c.in_ok-n.ensures.value in
    inputs_read _ _ _ _ _ _ (good.0 ∙ ap Some (map-id _)) good.2 c.from_image.ensures
