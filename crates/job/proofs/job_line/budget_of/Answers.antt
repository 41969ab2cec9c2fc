use Rattle.std.proofs.Common.{refl, sym, ◌∙◌}
use Rattle.program.proofs.Lines.{cut_there, budget_unended, budget_other, budget_there}
use Rattle.job.proofs.Reading.{number_small}
use Rattle.job.proofs.job_line.budget_of.Goals as goal

pub returns-in_err-line : goal.returns-in_err-line
returns-in_err-line c = rw c.from_residual.ensures (budget_unended _ c.in_err-line.ensures)

pub returns-then-line-ne-BUDGET_DIGITS : goal.returns-then-line-ne-BUDGET_DIGITS
returns-then-line-ne-BUDGET_DIGITS c = budget_other _ _ _ (cut_there _ _ _ c.in_ok-line.ensures) c.if-line-ne-BUDGET_DIGITS.true

pub returns-in_err-budget : goal.returns-in_err-budget
returns-in_err-budget c =
    rw c.from_residual-in_err-budget.ensures
    (sym (budget_there _ _ _ (cut_there _ _ _ c.in_ok-line.ensures) c.if-line-ne-BUDGET_DIGITS.false) ∙ sym c.in_err-budget.ensures)

pub overflow_cast-result : goal.overflow_cast-result
overflow_cast-result c = record { fits = number_small _ _ _ _ _ _ c.in_ok-budget.ensures refl refl }

pub returns : goal.returns
returns c =
    let cut = cut_there _ _ _ c.in_ok-line.ensures in
    (sym (budget_there _ _ _ cut c.if-line-ne-BUDGET_DIGITS.false) ∙ sym c.in_ok-budget.ensures, cut.is_rest)
