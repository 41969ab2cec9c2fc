-- Document 01, "Both sides of the line": the marked cases, in one table under one statement.
use Rattle.std.specs.Prelude.{ℕ, ◌≡◌, refl, List, [], ◌∷◌, replicate}
use Rattle.word.specs.Word.{Result, value, stop, add_u, sub_u, mul_u, quot_u, rem_u, signed, bits_of, in_range, narrow, add_s, sub_s, mul_s, division_s, quot_s, rem_s, bitwise, and_b, or_b, not_b, equal, differ, lt_u, le_u, lt_s, le_s, is_zero}
use Rattle.frame.specs.Ops.{uses_of, meaning_of}
use Rattle.frame.specs.Fault.{fits, instruction_fault}
use Rattle.image.specs.Layout.{counts, bodies, len, lengths, first as first_line, due as due_frames, body_from, body_at, kind_of}
use Rattle.image.specs.Judge.{header_fits, body_fits, header_fault, body_fault, fault, ending, look, judged}
use Rattle.kernel.specs.Search.{nth, any, first, least, sum, each}
use Rattle.kernel.specs.Design.{Table, main}
use Rattle.kernel.specs.Kernel.{Due, never, delta, at, ran, notifies, asks, History, kernel, after}
use Rattle.kernel.specs.Pending.{least_time, times_of, served}
use Rattle.kernel.specs.Effect.{effect}
use Rattle.kernel.specs.Machine.{when◌then◌else◌, given◌or_else◌take◌}
use Rattle.kernel.specs.Step.{perform, at_end, step_from, step, steps}
use Rattle.kernel.specs.Run.{Outcome, runs, asked}

-- what is compared: a value, a result of the arithmetic, what an event pends for, the outcome of a run
pub data Case : Type 0 where
  number : ℕ → Case
  result : Result → Case
  due : Due → Case
  outcome : Outcome → Case

abbrev pub Same : List (Case × Case) → Type 0
Same [] = Unit {0}
Same (p ∷ ps) = (p.0 ≡ p.1) × Same ps

-- the job whole: the table of "The program and one job whole", with these choices and this budget, on 256 lent cells that hold 7
abbrev pub table : Table
table =
    0xa002020000000001 ∷ 0xa100000000000001 ∷ 0xa100000000000002 ∷ 0xa100000000000002 ∷ 0x6800000000000000
    ∷ 0x6001000000000000 ∷ 0x6200000000000000 ∷ 0x6000000000000000 ∷ 0x6201000000000000 ∷ []

abbrev job : List ℕ → ℕ → Case
job choices budget =
    outcome (asked (record { table = table; choices = choices; inputs = []; budget = budget }) (replicate 256 7))

-- its answer: number, body, place, instructions, choices; time 0, no inputs, two threads left, and the one cell 0
abbrev says : ℕ → ℕ → ℕ → ℕ → ℕ → Case
says n b p i c = outcome (record {
  answer = record { number = n; body = b; place = p; time = 0; instructions = i; choices = c; inputs = 0; threads = 3 };
  cells = 0 ∷ replicate 255 7;
})

-- what event 0 pends for after a history
abbrev pending : History → Case
pending h = due ((kernel h).pends 0)

abbrev cases : List (Case × Case)
cases =
    -- "ffffffff + 1 unsigned is 0; 7fffffff + 1 signed is 15; 7fffffff + 0 is 7fffffff"
    (number (add_u 32 0xffffffff 1), number 0)
    ∷ (result (add_s 32 0x7fffffff 1), result (stop 15))
    ∷ (result (add_s 32 0x7fffffff 0), result (value 0x7fffffff))
    -- "0 - 1 unsigned is ffffffff. -7 by 2: -3, remainder -1. 80000000 by ffffffff signed: 15"
    ∷ (number (sub_u 32 0 1), number 0xffffffff)
    ∷ (result (quot_s 32 0xfffffff9 2), result (value 0xfffffffd))
    ∷ (result (rem_s 32 0xfffffff9 2), result (value 0xffffffff))
    ∷ (result (quot_s 32 0x80000000 0xffffffff), result (stop 15))
    ∷ (result (rem_s 32 0x80000000 0xffffffff), result (stop 15))
    -- "46,340 squared signed is 2,147,395,600; 46,341 squared is 15"
    ∷ (result (mul_s 32 46340 46340), result (value 2147395600))
    ∷ (result (mul_s 32 46341 46341), result (stop 15))
    -- "ffffffff < 0: signed 1, unsigned 0"
    ∷ (number (lt_s 32 0xffffffff 0), number 1)
    ∷ (number (lt_u 0xffffffff 0), number 0)
    -- "An event pending for 15, notified for 12, then 20, pends for 12; after delta, for delta; after notify at once, for nothing"
    ∷ (pending (ran main (asks 0 (at 20)) ∷ ran main (asks 0 (at 12)) ∷ ran main (asks 0 (at 15)) ∷ []), due (at 12))
    ∷ (pending (ran main (asks 0 delta) ∷ ran main (asks 0 (at 20)) ∷ ran main (asks 0 (at 12)) ∷ ran main (asks 0 (at 15)) ∷ []), due delta)
    ∷ (pending (ran main (notifies 0) ∷ ran main (asks 0 delta) ∷ ran main (asks 0 (at 20)) ∷ ran main (asks 0 (at 12)) ∷ ran main (asks 0 (at 15)) ∷ []), due never)
    -- "The job above. Choices 00 00: 21, 1 accepted, 2 instructions. Choices 00: 20. Budget 2: 22 at body 2, place 0, 2 choices"
    ∷ (job (0 ∷ 1 ∷ []) 100, says 0 0xff 0 3 2)
    ∷ (job (0 ∷ 0 ∷ []) 100, says 21 0xff 0 2 1)
    ∷ (job (0 ∷ []) 100, says 20 0xff 0 2 1)
    ∷ (job (0 ∷ 1 ∷ []) 2, says 22 2 0 2 2)
    ∷ []

pub marked : Same cases
unfolding add_u sub_u mul_u quot_u rem_u signed bits_of in_range narrow add_s sub_s mul_s division_s quot_s rem_s bitwise and_b or_b not_b equal differ lt_u le_u lt_s le_s is_zero uses_of meaning_of fits instruction_fault counts bodies len lengths first_line due_frames body_from body_at kind_of header_fits body_fits header_fault body_fault fault ending look judged nth any first least sum each kernel after least_time times_of served effect when◌then◌else◌ given◌or_else◌take◌ perform at_end step_from step steps runs asked
marked =
    (refl, (refl, (refl, (refl, (refl, (refl, (refl, (refl, (refl, (refl, (refl, (refl, (refl, (refl, (refl, (refl, (refl, (refl, (refl, tt)))))))))))))))))))
