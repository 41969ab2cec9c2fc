use borrow.Author.Rules.{rules}
use Rattle.image.proofs.Unique.{refusal_some}
use Rattle.run.proofs.Ends.{asked_inputs, asked_room, asked_run, asked_refused, judged_low, judged_good}
use Rattle.run.proofs.run.Goals as goal

pub returns-then-inputs-gt-INPUTS : goal.returns-then-inputs-gt-INPUTS
returns-then-inputs-gt-INPUTS c = search (asked_inputs, rules)

pub returns-then-cells : goal.returns-then-cells
returns-then-cells c = search (asked_room, rules)

pub run_accepted-requires : goal.run_accepted-requires
run_accepted-requires c = let w = c.in-Ok.ensures in (judged_good _ _ w, search rules, search rules)

pub returns-in-Ok : goal.returns-in-Ok
returns-in-Ok c = let w = c.in-Ok.ensures in search (asked_run, rules)

pub returns-in-Err : goal.returns-in-Err
returns-in-Err c = let w = c.in-Err.ensures in search (asked_refused, refusal_some, judged_low, rules)
