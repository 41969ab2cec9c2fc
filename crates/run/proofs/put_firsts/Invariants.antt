use Rattle.std.proofs.Common.{◌≡◌}
use Rattle.image.specs.Layout.{first}
use Rattle.turns.specs.Stands.{Firsts}
use Rattle.run.proofs.put_firsts.Given as goal

abbrev pub invariant-loop-k : goal.invariant-loop-k
invariant-loop-k l = (l.at ≡ first l.table l.k) × Firsts l.table l.k l.firsts
