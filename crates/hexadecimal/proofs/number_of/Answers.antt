use Rattle.std.proofs.Common.{refl, ◌∙◌}
use Rattle.hexadecimal.specs.Laws.{next_digit, no_digit, all_digits, read_none, read_mul, read_add}
use borrow.Author.Rules.{rules}
use Rattle.hexadecimal.proofs.number_of.Goals as goal

pub loop-b-init : goal.loop-b-init
loop-b-init c = read_none _ _

pub overflow_mul-x : goal.overflow_mul-x
overflow_mul-x c = record { fits = search (read_mul, rules) }

pub overflow_add-x : goal.overflow_add-x
overflow_add-x c =
    let v = c.in_ok-v.ensures in
    record { fits = rw c.from.ensures (read_add _ _ _ _ _ c.loop-b.invariant c.loop-b-test.true c.requires _ v.1) }

pub loop-b-preserved : goal.loop-b-preserved
loop-b-preserved c =
    let v = c.in_ok-v.ensures in
    rw c.from.ensures (next_digit _ _ refl c.requires _ _ _ c.loop-b.invariant v.0 v.1)

pub returns-in_err-v : goal.returns-in_err-v
returns-in_err-v c = c.from_residual.ensures ∙ no_digit _ _ refl c.requires _ c.loop-b-test.true c.in_err-v.ensures

pub returns : goal.returns
returns c = search (all_digits, rules)
