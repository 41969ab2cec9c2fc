use Rattle.std.proofs.Common.{◌<◌, ◌≡◌}
use Rattle.kernel.specs.Search.{least}
use Rattle.kernel.specs.Pending.{time_of}
use Rattle.dues.specs.Codes.{pend_of}
use Rattle.dues.specs.Dues.{time_at}
use Rattle.dues.proofs.least_in.Given as goal

abbrev pub invariant-loop-c : goal.invariant-loop-c
invariant-loop-c l = (0 < l.least) × (time_of (pend_of l.least) ≡ least (time_at l.codes) l.c-index)
