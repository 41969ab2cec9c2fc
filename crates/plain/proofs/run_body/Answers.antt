use borrow.Author.Rules.{rules}
use Rattle.plain.proofs.Turns.{loop_laws, loop_puts, loop_nexts, loop_goes}
use mathlib.Core.Path.{refl}
use Rattle.plain.proofs.run_body.Goals as goal
use Rattle.plain.proofs.run_body.Goals.{in-Put, in-Next, in-Go}

pub loop-place-init : goal.loop-place-init
loop-place-init c = (refl, refl)

pub returns-then-left-eq0 : goal.returns-then-left-eq0
returns-then-left-eq0 c = search (loop_laws, rules)

pub returns-in-Stop : goal.returns-in-Stop
returns-in-Stop c = search (loop_laws, rules)

pub returns-in-Leave : goal.returns-in-Leave
returns-in-Leave c = search (loop_laws, rules)

pub loop-place-preserved : goal.loop-place-preserved
loop-place-preserved c =
    elim c.match-e.branch [
      | in-Put w ↦ (rw (w.cells-is, w.place-is) (search (loop_puts, rules)), rw w.cells-is (search rules))
      | in-Next w ↦ (
        rw (w.cells-is, w.place-is) (loop_nexts _ _ _ _ _ _ c.loop-place.invariant.0 c.loop-place-test.true (search rules) _ _ c.from-i.ensures c.effect_of-e.ensures w.in-Next.is),
        rw w.cells-is (search rules),
      )
      | in-Go w ↦ (rw (w.cells-is, w.place-is) (search (loop_goes, rules)), rw w.cells-is (search rules))
    ]

pub returns : goal.returns
returns c = search (loop_laws, rules)
