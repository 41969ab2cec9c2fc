use Rattle.std.proofs.Common.{◌∙◌}
use Rattle.judge.proofs.Loops.{table_laws}
use Rattle.judge.proofs.judge_instructions.Goals as goal

pub judge_body-requires : goal.judge_body-requires
judge_body-requires c = search table_laws

pub loop-k-preserved : goal.loop-k-preserved
loop-k-preserved c = let h = c.in_ok-judge_body.ensures in (search table_laws, h.1, c.loop-k.invariant.2 ∙ h.0)
