use Rattle.std.proofs.Common.{arith, rules}
use Rattle.run.proofs.Ends.{header_there, few_counts}
use Rattle.job.proofs.Stages.{table_shown}
use Rattle.job.proofs.from_table.Goals as goal

pub bounds-table-0 : goal.bounds-table-0
bounds-table-0 c = search (header_there _ c.requires, rules)

pub invariant_of-result : goal.invariant_of-result
invariant_of-result c = record { within = omega (arith, (few_counts _ c.requires _ c.from-header.ensures).3) }

pub returns : goal.returns
returns c = table_shown _ _ _ _ _ _ _ c.run-answer.ensures c.from-header.ensures
