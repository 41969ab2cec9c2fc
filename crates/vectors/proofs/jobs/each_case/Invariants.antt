-- What is left of the text gets shorter with each case.
use Rattle.std.proofs.Common.{length, ◌-◌}
use Rattle.vectors.proofs.jobs.each_case.Given as goal

abbrev pub decreases-loop-at : goal.decreases-loop-at
decreases-loop-at g l = length l.text - l.at
