use Rattle.std.proofs.Common.{◌≡◌, ◌-◌, map, take}
use Rattle.program.specs.JobLines.{numbers_from}
use Rattle.job.proofs.Reading.{follow}
use Rattle.job.proofs.job_line.numbers_of.Given as goal

abbrev pub invariant-loop-i : goal.invariant-loop-i
invariant-loop-i g l =
    follow (map g.T.Number.value (take l.i l.places)) (numbers_from l.line l.digits l.i (l.count - l.i)) ≡ numbers_from l.line l.digits 0 l.count
