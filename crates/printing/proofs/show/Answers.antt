use Rattle.printing.proofs.Puts.{show_short, show_narrow, show_refused, show_whole}
use Rattle.printing.proofs.show.Goals as goal

pub returns-in_err-out : goal.returns-in_err-out
returns-in_err-out c = rw c.from_residual.ensures (show_short _ _ _ c.args.out.now c.in_err-out.ensures.cases)

pub returns-then-lines-cells : goal.returns-then-lines-cells
returns-then-lines-cells c =
    let parts = c.in_ok-out.ensures.cases in
    show_narrow _ _ _ _ parts.1 parts.2 _ parts.0 c.if-lines-cells.true

pub returns-then-is_refusal : goal.returns-then-is_refusal
returns-then-is_refusal c =
    let parts = c.in_ok-out.ensures.cases in
    show_refused _ _ _ _ parts.1 parts.2 _ c.if-lines-cells.false c.put_answer.ensures c.if-is_refusal.ensures

pub returns : goal.returns
returns c =
    let parts = c.in_ok-out.ensures.cases in
    show_whole _ _ _ _ parts.1 parts.2 _ c.if-lines-cells.false c.put_answer.ensures _ c.if-is_refusal.ensures c.put_cells.ensures
