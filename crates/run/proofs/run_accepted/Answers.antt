use native.Mathlib.Omega.{arith}
use Rattle.run.proofs.Accepted.{accepted_run}
use Rattle.run.proofs.Ends.{header_there, few_counts, all_bodies}
use borrow.Author.Rules.{rules}
use Rattle.run.proofs.run_accepted.Goals as goal

pub bounds-table-0 : goal.bounds-table-0
bounds-table-0 c = search (header_there _ c.requires.0, rules)

pub put_firsts-requires : goal.put_firsts-requires
put_firsts-requires c = let p = c.requires in let e = c.from-h.ensures in let n = few_counts _ p.0 _ e in (p.0, all_bodies _ p.0 _ e, omega (arith, n.0, n.2))

pub zero_cells-requires : goal.zero_cells-requires
zero_cells-requires c = let p = c.requires in let e = c.from-h.ensures in let n = few_counts _ p.0 _ e in omega (arith, n.3, p.2)

pub run_laid-requires : goal.run_laid-requires
run_laid-requires c = let p = c.requires in let e = c.from-h.ensures in let n = few_counts _ p.0 _ e in (p.1, n.0, n.1, n.2)

pub returns : goal.returns
returns c = let p = c.requires in accepted_run _ p.0 _ c.from-h.ensures _ _ _ _ _ _ _ p.1 p.2 (search (c.ranges.budget, rules)) c.put_firsts.ensures c.zero_cells.ensures c.run_laid.ensures
