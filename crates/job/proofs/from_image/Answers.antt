use Rattle.std.proofs.Common.{arith, rules, refl, sym, ◌∙◌}
use Rattle.image.proofs.Unique.{refusal_some}
use Rattle.job.proofs.Stages.{line_few, lines_counted, table_good, image_read, image_refused}
use Rattle.job.proofs.from_image.Goals as goal

pub slice_bounds-table-end : goal.slice_bounds-table-end
slice_bounds-table-end c = omega (arith, line_few _ _ (search rules) _ _ c.in-Ok.ensures c.in-Ok.lines refl)

pub slice_bounds-from_table-end : goal.slice_bounds-from_table-end
slice_bounds-from_table-end c =
    lines_counted _ _ (search rules) _ _ c.in-Ok.ensures c.in-Ok.lines refl (search rules)

pub from_table-requires : goal.from_table-requires
from_table-requires c = table_good _ _ (search rules) _ _ c.in-Ok.ensures 0 c.in-Ok.lines refl refl refl

pub returns-in-Ok : goal.returns-in-Ok
returns-in-Ok c = image_read _ _ _ _ _ _ c.in-Ok.ensures 0 c.in-Ok.lines refl refl _ refl c.from_table.ensures

pub overflow_cast-result : goal.overflow_cast-result
overflow_cast-result c = omega (arith, line_few _ _ (search rules) _ _ c.in-Err.ensures _ c.line.ensures)

pub returns-in-Err : goal.returns-in-Err
returns-in-Err c =
    image_refused _ _ _ _ _ _ c.in-Err.ensures _ _ c.number.ensures c.line.ensures (λ z. refusal_some c.in-Err.refusal (sym c.number.ensures ∙ z))
