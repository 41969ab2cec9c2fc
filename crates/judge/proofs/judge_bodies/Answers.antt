use Rattle.std.proofs.Common.{arith, refl}
use Rattle.judge.proofs.Loops.{heads_turn, heads_done}
use Rattle.judge.proofs.judge_bodies.Goals as goal

pub loop-line-preserved : goal.loop-line-preserved
loop-line-preserved c =
    let i = c.loop-line.invariant in
    heads_turn _ _ _ _ c.requires c.loop-line.auto.line i.3 i.0 _ c.loop-line-test.true c.in_ok-head.ensures.there c.if-not-body_fits.ensures (omega arith)

pub judge_instructions-requires : goal.judge_instructions-requires
judge_instructions-requires c =
    let i = c.loop-line.invariant in
    heads_done _ _ _ _ c.requires c.loop-line.auto.line i.3 i.0 _ refl c.loop-line-test.false (omega arith) i.1 i.2
