use Rattle.std.proofs.Common.{rules}
use Rattle.std.proofs.lemmas.Result.{err_from_is_err_and}
use Rattle.judge.proofs.Loops.{body_laws}
use Rattle.judge.proofs.judge_body.Goals as goal

pub returns-in_err-f : goal.returns-in_err-f
returns-in_err-f c =
    let p = err_from_is_err_and c.from_residual.result c.from_residual.ensures.1 in
    rw (p.1, p.2) (search (body_laws, rules))

pub returns-in-Err-Op : goal.returns-in-Err-Op
returns-in-Err-Op c = let t = c.in_ok-f.ensures.there in let u = rw c.in-Err-Op.field-0-is at c.in-Err-Op.is in search body_laws

pub returns-in-Err-Field : goal.returns-in-Err-Field
returns-in-Err-Field c = let t = c.in_ok-f.ensures.there in let u = rw c.in-Err-Field.field-0-is at c.in-Err-Field.is in search body_laws

pub loop-line-preserved : goal.loop-line-preserved
loop-line-preserved c = let t = c.in_ok-f.ensures.there in (search rules, search body_laws)
