use native.Mathlib.Omega.{arith}
use Rattle.run.proofs.Ends.{firsts_none, firsts_more, firsts_end, first_begins, line_next, lines_there, lines_many, line_fits}
use borrow.Author.Rules.{rules}
use Rattle.run.proofs.put_firsts.Goals as goal

pub slice_bounds-line-items-end : goal.slice_bounds-line-items-end
slice_bounds-line-items-end c = lines_there _ _ c.requires.0 c.requires.1

pub loop-k-init : goal.loop-k-init
loop-k-init c = search (firsts_none, first_begins, rules)

pub overflow_add-at-in-loop-k : goal.overflow_add-at-in-loop-k
overflow_add-at-in-loop-k c =
    record { fits = line_fits _ _ c.requires.0 c.requires.1 _ _ _ c.loop-k-test.true c.from.ensures c.loop-k.invariant.0 _ (search rules) }

pub loop-k-preserved : goal.loop-k-preserved
loop-k-preserved c =
    let i = c.loop-k.invariant in
    let many = lines_many _ _ c.requires.0 c.requires.1 in (
      line_next _ _ c.requires.0 c.requires.1 _ _ _ c.loop-k-test.true c.from.ensures i.0,
      firsts_more _ _ _ _ i.1 i.0 (omega (arith, many, c.requires.2, c.loop-k-test.true, c.loop-k.auto.firsts)),
    )

pub returns : goal.returns
returns c =
    let many = lines_many _ _ c.requires.0 c.requires.1 in
    firsts_end _ _ _ _ _ c.loop-k.invariant.1 c.loop-k.invariant.0 (omega (arith, many, c.loop-k-test.false, c.loop-k.auto.k-end)) (omega (arith, c.requires.2, c.loop-k.auto.firsts))
