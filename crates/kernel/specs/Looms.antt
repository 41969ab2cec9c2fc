-- The two looms: document 01's whole job, where main besides notifies event 1 before the start. What happens, by computation, and who is held at the end.
use Rattle.std.specs.Prelude.{◌≡◌, refl, [], ◌∷◌}
use Rattle.frame.specs.Ops.{meaning_of}
use Rattle.image.specs.Layout.{counts, bodies, len, lengths, first as first_line}
use Rattle.kernel.specs.Search.{none, nth, any, first, least, sum, each}
use Rattle.kernel.specs.Design.{Table, main, thread}
use Rattle.kernel.specs.History.{on, notifies, waits, ran, dispatched, began, quiet, History}
use Rattle.kernel.specs.Kernel.{after, kernel}
use Rattle.kernel.specs.Pending.{least_time, times_of, served}
use Rattle.kernel.specs.Effect.{effect}
use Rattle.kernel.specs.Machine.{Job, over, init, when◌then◌else◌, given◌or_else◌take◌}
use Rattle.kernel.specs.Step.{perform, at_end, step_from, step, steps}
use Rattle.kernel.specs.Words.{waits_now, waits_yet, Held, Runnable}

-- main notifies event 1 and starts; thread 0 waits for event 1, then notifies event 0; thread 1 waits for event 0, then notifies event 1
abbrev table : Table
table =
    0xa002020000000001 ∷ 0xa100000000000002 ∷ 0xa100000000000002 ∷ 0xa100000000000002 ∷ 0x6201000000000000 ∷ 0x6800000000000000
    ∷ 0x6001000000000000 ∷ 0x6200000000000000 ∷ 0x6000000000000000 ∷ 0x6201000000000000 ∷ []

abbrev job : Job
job = record { table = table; choices = 0 ∷ 1 ∷ []; inputs = []; budget = 100 }

-- the newest first
abbrev story : History
story =
    quiet ∷ ran (thread 1) (waits (on 0)) ∷ dispatched 1 ∷ ran (thread 0) (waits (on 1)) ∷ dispatched 0 ∷ began none
    ∷ ran main (notifies 1) ∷ []

pub record Looms : Type 0 where
  pub happens : (steps job 16 (init job)).history ≡ story
  pub is_quiet : (steps job 16 (init job)).machine.control ≡ over 0 0xff 0
  -- each waits since the event last triggered, so neither can run
  pub held_0 : Held 0 1 story
  pub held_1 : Held 1 0 story
  pub stands_0 : Runnable table story 0 → ⊥
  pub stands_1 : Runnable table story 1 → ⊥

pub looms : Looms
unfolding meaning_of counts bodies len lengths first_line nth any first least sum each after kernel least_time times_of served effect when◌then◌else◌ given◌or_else◌take◌ perform at_end step_from step steps
looms =
    let a : Held 0 1 story = waits_yet refl (waits_yet refl (waits_yet refl waits_now)) in
    let b : Held 1 0 story = waits_yet refl waits_now in
    record { happens = refl; is_quiet = refl; held_0 = a; held_1 = b; stands_0 = λ r. r.no_event 1 a; stands_1 = λ r. r.no_event 0 b }
