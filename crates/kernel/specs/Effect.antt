-- What one instruction comes to. Document 01, "Instructions" and "Numbers returned".
use Rattle.std.specs.Prelude.{ℕ, zero, suc, ◌+◌, Bool, true, false, ◌&&◌, List, get_or, eqb, ltb, leb}
use Rattle.word.specs.Word.{Result, value, stop}
use Rattle.frame.specs.declared.Frame.{Frame}
use Rattle.frame.specs.Ops.{Meaning, takes_imm, takes_input, one, two, may, load, store, goto, goto_if, holds, wait_event, wait_time, notify, notify_after, request, suspend, resume, start_limit, start, unknown}
use Rattle.kernel.specs.Search.{Found, none, found}
use Rattle.kernel.specs.Design.{Body, main, thread, update}
use Rattle.kernel.specs.Kernel.{Due, never, delta, at, after_delay, on, till, Kernel, Deed, nothing, notifies, asks, waits, requests, suspends, resumes, Stage, before, during, past}

-- what an instruction sees
pub record View : Type 0 where
  pub body : Body
  pub place : ℕ
  pub cells : List ℕ
  pub input : Found
  pub kernel : Kernel
  pub times : ℕ

-- what it comes to: the run stops with a number; a cell takes a value, or the next input; the body goes on at a place;
-- the kernel is asked; the phase begins with a limit or none
pub data Effect : Type 0 where
  stops : ℕ → Effect
  sets : ℕ → ℕ → Effect
  takes : ℕ → ℕ → Effect
  goes : ℕ → Effect
  does : Deed → Effect
  begins : Found → Effect

abbrev pub stop_if : Bool → ℕ → Effect → Effect
stop_if true n x = stops n
stop_if false n x = x

abbrev pub sets_to : ℕ → Result → Effect
sets_to d (value x) = sets d x
sets_to d (stop n) = stops n

-- "19: inputs used up"
abbrev pub takes_to : ℕ → Found → Effect
takes_to d none = stops 19
takes_to d (found x) = takes d x

abbrev pub goes_if : ℕ → ℕ → ℕ → Effect
goes_if zero p q = goes q
goes_if (suc n) p q = goes p

-- "18: second start"
abbrev pub starts_in : Stage → Found → Effect
starts_in before l = begins l
starts_in during l = stops 18
starts_in (past n) l = stops 18

-- "or ops 62 to 66 in main after the phase"
abbrev pub main_past : Body → Stage → Bool
main_past main before = false
main_past main during = false
main_past main (past n) = true
main_past (thread k) s = false
main_past (update u) s = false

abbrev pub is_never : Due → Bool
is_never never = true
is_never delta = false
is_never (at t) = false

-- the last time there is
abbrev pub last_time : ℕ
last_time = 4294967295

-- "17: a due time asked for is above 4,294,967,295, even if an earlier one would stay"; "23: a due time is to be added and 48 stand"
abbrev pub asks_for : Bool → ℕ → Due → Deed → Effect
asks_for adds n never x = does x
asks_for adds n delta x = does x
asks_for adds n (at t) x = stop_if (ltb last_time t) 17 (stop_if (adds && leb 48 n) 23 (does x))

module _ (v : View) (i : Frame) where
  abbrev cell : ℕ → ℕ
  cell n = get_or v.cells n 0

  -- the values of a and b
  abbrev A : ℕ
  A = cell i.a

  abbrev B : ℕ
  B = cell i.b

  -- 18 before what the instruction itself answers
  abbrev in_time : Effect → Effect
  in_time x = stop_if (main_past v.body v.kernel.stage) 18 x

  -- the time or the delta phase that the delay in a leads to
  abbrev due : Due
  due = after_delay v.kernel.now A

  unfoldable pub effect : Meaning → Effect
  effect takes_imm = sets i.d i.imm
  effect takes_input = takes_to i.d v.input
  effect (one f) = sets i.d (f A)
  effect (two f) = sets i.d (f A B)
  effect (may f) = sets_to i.d (f A B)
  -- "load d from, store d to, place (value of a) of the region of b cells from cell imm"; "16: place not below the region's length"
  effect load = stop_if (leb i.b A) 16 (sets i.d (cell (i.imm + A)))
  effect store = stop_if (leb i.b A) 16 (sets (i.imm + A) (cell i.d))
  effect goto = goes i.imm
  effect goto_if = goes_if A i.imm (suc v.place)
  -- "assert a; assume a (not 0 holds)"; "12, 13: assert, assume failed"
  effect (holds n) = stop_if (eqb A 0) n (does nothing)
  effect wait_event = does (waits (on i.d))
  -- "wait for time 0 is freed in the next delta phase, otherwise at now + value"
  effect wait_time = asks_for true v.times due (waits (till due))
  effect notify = in_time (does (notifies i.d))
  -- "a replacement adds none"
  effect notify_after = in_time (asks_for (is_never (v.kernel.pends i.d)) v.times due (asks i.d due))
  effect request = in_time (does (requests i.d))
  effect suspend = in_time (does (suspends i.d))
  effect resume = in_time (does (resumes i.d))
  effect start_limit = starts_in v.kernel.stage (found i.imm)
  effect start = starts_in v.kernel.stage none
  -- no accepted table has such an instruction
  effect unknown = stops 4
