use Rattle.std.proofs.Common.{◌∙◌, arith}
use Rattle.hexadecimal.specs.Laws.{number_long, number_cut, number_there}
use Rattle.hexadecimal.proofs.number_at.Goals as goal

pub returns-then-n-gt16 : goal.returns-then-n-gt16
returns-then-n-gt16 c = search number_long

pub returns-in_err-end : goal.returns-in_err-end
returns-in_err-end c = c.from_residual.ensures ∙ number_cut _ _ _ (omega (arith, c.in_err-end.ensures))

pub returns-in_err-get : goal.returns-in_err-get
returns-in_err-get c =
    let past = c.in_err-get.ensures.lookup in
    c.from_residual-in_err-get.ensures ∙ number_cut _ _ _ (omega (arith, past.0, c.in_ok-end.ensures))

pub returns : goal.returns
returns c =
    let part = c.in_ok-get.ensures.lookup in
    number_there c.args.bytes.now c.args.at c.args.n c.in_ok-end.end _ _ c.number_of.ensures part.0.2 (omega (arith, c.in_ok-end.ensures)) (omega arith)
