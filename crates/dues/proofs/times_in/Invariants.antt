use Rattle.std.proofs.Common.{◌≤◌, ◌≡◌}
use Rattle.kernel.specs.Search.{sum}
use Rattle.dues.specs.Dues.{count_at}
use Rattle.dues.proofs.times_in.Given as goal

abbrev pub invariant-loop-c : goal.invariant-loop-c
invariant-loop-c l = (l.times ≤ l.c-index) × (l.times ≡ sum (count_at l.codes) l.c-index)
