use Rattle.std.proofs.Common.{arith}
use Rattle.program.proofs.Lines.{line_within, split_there, split_none}
use Rattle.program.proofs.split_line.Goals as goal

pub split_at-requires : goal.split_at-requires
split_at-requires c = omega (arith, line_within c.args.text.now)

pub returns-in_err-rest : goal.returns-in_err-rest
returns-in_err-rest c =
    let rest = rw c.line_length.ensures at c.split_at.ensures.back in
    rw c.from_residual.ensures (split_none _ _ rest c.in_err-rest.ensures.cases)

pub returns : goal.returns
returns c =
    let line = rw c.line_length.ensures at c.split_at.ensures.front in
    let rest = rw c.line_length.ensures at c.split_at.ensures.back in
    split_there _ _ rest _ _ _ line c.in_ok-rest.ensures.cases.0
