-- The plain instructions: those that take no input and ask the kernel for nothing. What one comes to, and a run of them.
use Rattle.std.specs.Prelude.{ℕ, zero, suc, ◌+◌, ◌≡◌, Bool, true, false, ◌&&◌, List, [], eqb, ltb, leb, length, get_or, set, if◌then◌else◌}
use Rattle.frame.specs.declared.Frame.{Frame}
use Rattle.frame.specs.Fields.{fields}
use Rattle.frame.specs.Ops.{Meaning, takes_imm, takes_input, one, two, may, load, store, goto, goto_if, holds, wait_event, wait_time, notify, notify_after, request, suspend, resume, start_limit, start, unknown, meaning_of}
use Rattle.kernel.specs.Search.{none}
use Rattle.kernel.specs.Design.{main}
use Rattle.kernel.specs.Kernel.{Deed, nothing, reads, notifies, asks, waits, requests, suspends, resumes, kernel}
use Rattle.kernel.specs.Effect.{View, Effect, stops, sets, takes, goes, does, begins, effect}
use Rattle.ending.specs.declared.Ending.TheVariants.{UnknownOp, OutOfRegion, NoBudgetLeft}
use Rattle.ending.specs.Ending.{ending_of}
use Rattle.effect.specs.declared.Eff.{Eff}
use Rattle.effect.specs.declared.Eff.TheVariants.{Put, Next, Go, Stop, Leave}
use Rattle.plain.specs.declared.End.{End}
use Rattle.plain.specs.declared.End.TheVariants.{Ended, Left, Stopped}
use Rattle.plain.specs.declared.Ran.{Ran}

-- 01, 02, 10 to 14, 18 to 1c, 20 to 22, 28 to 2e, 30, 31, 40, 41, 50, 51
abbrev pub is_plain : Meaning → Bool
is_plain takes_imm = true
is_plain takes_input = false
is_plain (one f) = true
is_plain (two f) = true
is_plain (may f) = true
is_plain load = true
is_plain store = true
is_plain goto = true
is_plain goto_if = true
is_plain (holds n) = true
is_plain wait_event = false
is_plain wait_time = false
is_plain notify = false
is_plain notify_after = false
is_plain request = false
is_plain suspend = false
is_plain resume = false
is_plain start_limit = false
is_plain start = false
is_plain unknown = false

-- all that a plain instruction sees is its place and the cells
abbrev pub seen : (place : ℕ) → List ℕ → View
seen place cells =
    record { body = main; place = place; cells = cells; input = none; kernel = kernel []; times = 0 }

-- the code's answer for what an instruction at a place comes to
abbrev pub after_deed : (place : ℕ) → Deed → Eff
after_deed place nothing = Go (place + 1)
after_deed place reads = Leave
after_deed place (notifies e) = Leave
after_deed place (asks e d) = Leave
after_deed place (waits w) = Leave
after_deed place (requests u) = Leave
after_deed place (suspends i) = Leave
after_deed place (resumes i) = Leave

abbrev pub as_eff : (place : ℕ) → Effect → Eff
as_eff place (sets d x) = Put d x
as_eff place (goes p) = Go p
as_eff place (does x) = after_deed place x
as_eff place (stops n) = Stop (ending_of n)
as_eff place (takes d x) = Leave
as_eff place (begins l) = Leave

unfoldable pub plain_effect : Frame → (place : ℕ) → List ℕ → Eff
plain_effect i place cells =
    if is_plain (meaning_of i.op) then as_eff place (effect (seen place cells) i (meaning_of i.op)) else Leave

-- the code's answer knows no place: what it comes to at one
abbrev pub stands : (place : ℕ) → Eff → Eff
stands place (Put d x) = Put d x
stands place Next = Go (place + 1)
stands place (Go p) = Go p
stands place (Stop n) = Stop n
stands place Leave = Leave

-- and at each it is what the instruction comes to
abbrev pub Comes : Eff → Frame → List ℕ → Type 0
Comes e i cells = (place : ℕ) → stands place e ≡ plain_effect i place cells

-- parts of the decision: place v of a region read and written; assert and assume
abbrev pub load_of : Frame → (v : ℕ) → List ℕ → Eff
load_of i v cs = if leb i.b v then Stop OutOfRegion else Put i.d (get_or cs (i.imm + v) 0)

abbrev pub store_of : Frame → (v : ℕ) → List ℕ → Eff
store_of i v cs = if leb i.b v then Stop OutOfRegion else Put (i.imm + v) (get_or cs i.d 0)

abbrev pub hold_of : (x n : ℕ) → Eff
hold_of x n = if eqb x 0 then Stop (ending_of n) else Next

-- how a run of plain instructions ends, and the cells then
pub record Out : Type 0 where
  pub ran : Ran
  pub cells : List ℕ

abbrev pub out : End → (place left : ℕ) → List ℕ → Out
out e place left cells = record { ran = record { end = e; place = place; left = left }; cells = cells }

-- where a test holds the first, which is computed only then
abbrev pub when : Bool → (Unit {0} → Out) → Out → Out
when true f o = f tt
when false f o = o

-- "One that stops the run changes nothing and isn't counted."
abbrev pub after : Eff → (ℕ → List ℕ → Out) → (place left : ℕ) → List ℕ → Out
after (Put d x) rest place left cells = rest (place + 1) (set cells d x)
after Next rest place left cells = rest (place + 1) cells
after (Go p) rest place left cells = rest p cells
after (Stop n) rest place left cells = out (Stopped n) place left cells
after Leave rest place left cells = out Left place left cells

-- the plain instructions of the body of len frames from line base on, from a place on, with this much left of the budget;
-- "22: an instruction is due and the budget is used up"
unfoldable pub plain : (left : ℕ) → List ℕ → (base len place : ℕ) → List ℕ → Out
plain zero table base len place cells =
    when (ltb place len) (λ _. out (Stopped NoBudgetLeft) place 0 cells) (out Ended place 0 cells)
plain (suc n) table base len place cells =
    when (ltb place len)
    (λ _. after (plain_effect (fields (get_or table (base + place) 0)) place cells) (plain n table base len) place (suc n) cells)
    (out Ended place (suc n) cells)

-- the body lies in the table and is no longer than a body may be, and the cells are as many as a field can name
abbrev pub able : List ℕ → (base len : ℕ) → List ℕ → Bool
able table base len cells = leb (base + len) (length table) && (leb len 1024 && leb 256 (length cells))

-- and where that is not so, which no judged table brings about, the run stops with 4
unfoldable pub run_plain : (budget : ℕ) → List ℕ → (base len from : ℕ) → List ℕ → Out
run_plain budget table base len from cells =
    when (able table base len cells) (λ _. plain budget table base len from cells) (out (Stopped UnknownOp) from budget cells)
