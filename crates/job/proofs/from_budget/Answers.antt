use Rattle.std.proofs.lemmas.Result.{err_from_is_err_and}
use Rattle.job.proofs.Stages.{line_bad, line_good, budget_bad, budget_read}
use Rattle.job.proofs.from_budget.Goals as goal

pub returns-in_err-budget : goal.returns-in_err-budget
returns-in_err-budget c =
    let p = err_from_is_err_and c.from_residual.result c.from_residual.ensures.1 in
    let bad = line_bad _ _ _ _ _ c.budget_of.ensures c.in_err-budget.ensures.value in
    rw (p.1, p.2, bad.0) (budget_bad _ bad.1)

pub returns : goal.returns
returns c =
    let good = line_good _ _ _ _ _ c.budget_of.ensures c.in_ok-budget.ensures.value in
    budget_read _ _ _ _ good.0 good.1 c.from_choices.ensures
