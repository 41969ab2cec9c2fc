-- What the code makes of its numbers, turn by turn. Nothing public speaks of it: proofs/ shows that each turn is some steps of the machine.
use Rattle.std.specs.Prelude.{◌≡◌, ℕ, zero, suc, ◌+◌, ◌-◌, ◌%◌, Bool, true, false, not, ◌&&◌, List, [], ◌∷◌, map, eqb, ltb, leb, length, get_or, set, replicate, if◌then◌else◌, Option, Some, None, Result, Ok, Err}
use Rattle.laws.specs.Choice.{between}
use Rattle.frame.specs.declared.Frame.{Frame}
use Rattle.frame.specs.Fields.{fields}
use Rattle.frame.specs.Ops.{Meaning, takes_imm, takes_input, one, two, may, load, store, goto, goto_if, holds, wait_event, wait_time, notify, notify_after, request, suspend, resume, start_limit, start, unknown, meaning_of}
use Rattle.kernel.specs.Search.{Found, none, found, nth, lesser, least, sum}
use Rattle.kernel.specs.Run.{Answer as Told, Outcome}
use Rattle.sets.specs.Sets.{has, with}
use Rattle.marks.specs.declared.Marks.{Marks}
use Rattle.dues.specs.Codes.{last_time, for_nothing}
use Rattle.marks.specs.Marks.{may_run, any_runs, first_asked, not_ended, first_marks, waits_on, waits_till, asked_for, suspended, resumed, ended_by, requested_by, finished_by}
use Rattle.dues.specs.Dues.{time_at, count_at, ask_code, waits_at, changed, asked_code, over_code, due_in}
use Rattle.waits.specs.Waits.{triggered}
use Rattle.phases.specs.Phases.{cleared_by, served_delta, served_time}
use Rattle.ending.specs.declared.Ending.{Ending}
use Rattle.ending.specs.declared.Ending.TheVariants.{Quiet as QuietEnding, UnknownOp, Limit, NoStart, TooLate, OutOfPhase, NoInputLeft, NoChoiceLeft, NotRunnable, TooManyDueTimes}
use Rattle.ending.specs.Ending.{number_of}
use Rattle.plain.specs.declared.End.{End}
use Rattle.plain.specs.declared.End.TheVariants.{Ended, Left, Stopped}
use Rattle.plain.specs.Plain.{Out, run_plain}
use Rattle.turns.specs.declared.Control.{Control}
use Rattle.turns.specs.declared.Control.TheVariants.{Runs, UpdatePhase, DeltaPhase, Turn, Evaluation, TimePhase, Over}
use Rattle.turns.specs.declared.Now.{Now}
use Rattle.turns.specs.declared.Obeyed.{Obeyed}
use Rattle.turns.specs.declared.Obeyed.TheVariants.{Goes, Waits, Took, Begins}
use Rattle.turns.specs.declared.Done.{Done}
use Rattle.turns.specs.declared.Stage.{Stage}
use Rattle.turns.specs.declared.Stage.TheVariants.{Before, During, Quiet, Limited}
use Rattle.turns.specs.declared.Job.{Job}
use Rattle.turns.specs.declared.State.{State}
use Rattle.shows.specs.Shows.{Lists, lists, Kept, kept}

-- all of the code's state
pub record Code : Type 0 where
  pub now : Now
  pub lists : Lists
  pub places : List ℕ
  pub cells : List ℕ

abbrev pub code : Now → Lists → (places cells : List ℕ) → Code
code n l ps cs = record { now = n; lists = l; places = ps; cells = cs }

-- what is lent, with the single numbers and the cells
abbrev pub lists_of : State → Lists
lists_of s = lists s.pends.now s.waits.now s.waiters.now

abbrev pub kept_of : Now → State → Kept
kept_of n s = kept n.marks (lists_of s)

abbrev pub code_of : Now → State → (cells : List ℕ) → Code
code_of n s cs = code n (lists_of s) s.places.now cs

-- there are as many threads as waits for a time
abbrev pub threads_of : State → ℕ
threads_of s = length s.waits.now

-- the slices that b lends are those that a lent, so that who lent them learns what became of them
abbrev pub SameSlices : (a b : State) → Type 0
SameSlices a b =
    (b.pends.ghost_name ≡ a.pends.ghost_name) × (b.waits.ghost_name ≡ a.waits.ghost_name)
    × (b.waiters.ghost_name ≡ a.waiters.ghost_name) × (b.places.ghost_name ≡ a.places.ghost_name)

-- the single numbers: at another place; with other marks there; with so much left of the budget
abbrev pub goes_to : Control → Now → Now
goes_to c n = record n { control = c }

abbrev pub marks_to : Control → Marks → Now → Now
marks_to c m n = record n { control = c; marks = m }

abbrev pub with_left : ℕ → Now → Now
with_left x n = record n { left = x }

-- Evaluation --------------------------------------------------------------------------------------------------

abbrev pub dispatch : ℕ → Now → Now
dispatch c n = record n { control = Runs (c + 1); chosen = n.chosen + 1 }

abbrev pub chosen_by : Found → Now → Now
chosen_by none n = goes_to (Over (number_of NoChoiceLeft) 0xff 0) n
chosen_by (found c) n = if may_run n.marks c then dispatch c n else goes_to (Over (number_of NotRunnable) 0xff 0) n

-- and where no thread is runnable the machine goes to `idle`
unfoldable pub evaluated : (choices : List ℕ) → (idle : Control) → Now → Now
evaluated choices idle n = if any_runs n.marks then chosen_by (nth choices n.chosen) n else goes_to idle n

-- what the next choice comes to while a thread is runnable: the thread that is dispatched, or why the run is over; and what follows
-- where it is over for k
abbrev pub choice_by : Found → Marks → Result ℕ Ending
choice_by none m = Err NoChoiceLeft
choice_by (found c) m = if may_run m c then Ok c else Err NotRunnable

abbrev pub idle_or : (k : Ending) → (idle : Control) → Now → Now
idle_or k idle n = if any_runs n.marks then goes_to (Over (number_of k) 0xff 0) n else goes_to idle n

-- The update phase; t is the number of threads ----------------------------------------------------------------

-- where evaluation leads once no thread is runnable
abbrev pub when_idle : Found → Control
when_idle none = DeltaPhase
when_idle (found u) = UpdatePhase

abbrev pub enters_to : (t : ℕ) → Found → Now → Now
enters_to t none n = goes_to DeltaPhase n
enters_to t (found u) n = goes_to (Runs (t + 1 + u)) n

abbrev pub enters_at : (t : ℕ) → Found → List ℕ → List ℕ
enters_at t none ps = ps
enters_at t (found u) ps = set ps (t + 1 + u) 0

-- The delta phase, and the turn to evaluation or time ----------------------------------------------------------

abbrev pub delta_to : Now → Lists → Now
delta_to n l = marks_to Turn (served_delta l.waiters n.marks) n

abbrev pub delta_in : Now → Lists → Lists
delta_in n l = lists l.pends l.waits (cleared_by n.marks.pending l.waiters)

-- Time --------------------------------------------------------------------------------------------------------

abbrev pub least_of : Lists → Found
least_of l = lesser (least (time_at l.pends) (length l.pends)) (least (time_at l.waits) (length l.waits))

-- the phase is over, and main goes on
abbrev pub closed : Stage → Now → Now
closed s n = record n { control = Runs 0; stage = s }

abbrev pub moved_to : ℕ → Marks → Now → Now
moved_to t m n = record n { control = Turn; time = t; marks = m }

-- the limit, where there is one, is below the time t
abbrev pub is_beyond : Option ℕ → (t : ℕ) → Bool
is_beyond None t = false
is_beyond (Some limit) t = ltb limit t

-- all that is due at the time t
abbrev pub served_at : (t : ℕ) → Lists → Lists
served_at t l = lists (map (over_code (t + 1)) l.pends) (map (over_code (t + 1)) l.waits) (cleared_by (due_in (t + 1) l.pends) l.waiters)

abbrev pub timed_by : Found → Now → Lists → Now
timed_by none n l = closed Quiet n
timed_by (found t) n l = if is_beyond n.limit t then closed Limited n else moved_to t (served_time (t + 1) l.pends l.waits l.waiters n.marks) n

abbrev pub served_by : Found → Now → Lists → Lists
served_by none n l = l
served_by (found t) n l = if is_beyond n.limit t then l else served_at t l

-- A body's end ------------------------------------------------------------------------------------------------

abbrev pub phase_ending : Stage → Ending
phase_ending Before = NoStart
phase_ending During = NoStart
phase_ending Quiet = QuietEnding
phase_ending Limited = Limit

-- body b is thread b - 1 of t threads
abbrev pub is_thread : (t b : ℕ) → Bool
is_thread t b = between 1 b t

unfoldable pub ends_to : (t b : ℕ) → Now → Now
ends_to t b n =
    if eqb b 0 then goes_to (Over (number_of (phase_ending n.stage)) 0xff 0) n
    else (if leb b t then marks_to Evaluation (ended_by (b - 1) n.marks) n else marks_to UpdatePhase (finished_by (b - 1 - t) n.marks) n)

-- An instruction that is not plain ------------------------------------------------------------------------------

-- what it came to, or why the run is over
pub record Did : Type 0 where
  pub came : Result Obeyed Ending
  pub kept : Kept
  pub cells : List ℕ

abbrev pub did : Obeyed → Kept → List ℕ → Did
did o x cs = record { came = Ok o; kept = x; cells = cs }

abbrev pub stopped : Ending → Kept → List ℕ → Did
stopped k x cs = record { came = Err k; kept = x; cells = cs }

-- as the code has it: where the run stops, the marks m stay as they were
abbrev pub did_by : Result Done Ending → (m : Marks) → Lists → List ℕ → Did
did_by (Ok d) m l cs = did d.came (kept d.marks l) cs
did_by (Err k) m l cs = stopped k (kept m l) cs

abbrev pub did_of : Result Done Ending → Now → State → List ℕ → Did
did_of r n s cs = did_by r n.marks (lists_of s) cs

-- is the phase over
abbrev pub is_closed : Stage → Bool
is_closed Before = false
is_closed During = false
is_closed Quiet = true
is_closed Limited = true

-- main after the phase
abbrev pub is_past : (b : ℕ) → Stage → Bool
is_past b stage = eqb b 0 && is_closed stage

-- only a thread waits: for event e, and for the moment q
unfoldable pub waited_on : (t b e : ℕ) → Kept → Kept
waited_on t b e x =
    if is_thread t b then kept (waits_on (b - 1) x.marks) (lists x.lists.pends x.lists.waits (set x.lists.waiters e (with (get_or x.lists.waiters e 0) (b - 1))))
    else x

unfoldable pub waited_till : (t b q : ℕ) → Kept → Kept
waited_till t b q x =
    if is_thread t b then kept (waits_till q (b - 1) x.marks) (lists x.lists.pends (waits_at q (b - 1) x.lists.waits) x.lists.waiters)
    else x

abbrev pub wait_came : (t b : ℕ) → Obeyed
wait_came t b = if is_thread t b then Waits else Goes

-- event e triggered at once, and asked for at the moment q
abbrev pub triggered_in : (e : ℕ) → Kept → Kept
triggered_in e x = kept (triggered x.lists.waiters e x.marks) (lists (set x.lists.pends e for_nothing) x.lists.waits (set x.lists.waiters e 0))

abbrev pub asked_in : (q e : ℕ) → Kept → Kept
asked_in q e x = kept (asked_for q e x.marks) (lists (changed (asked_code (has x.marks.pending e) q) e x.lists.pends) x.lists.waits x.lists.waiters)

-- event e pends for nothing, so a due time for it is one more
abbrev pub adds_time : (e : ℕ) → Kept → Bool
adds_time e x = not (has x.marks.pending e) && ltb last_time (get_or x.lists.pends e 0)

abbrev pub times_in : Lists → ℕ
times_in l = sum (count_at l.pends) (length l.pends) + sum (count_at l.waits) (length l.waits)

-- no room for a due time q that is to be added
abbrev pub full : (adds : Bool) → (q : ℕ) → Lists → Bool
full adds q l = not (eqb q 0) && (adds && leb 48 (times_in l))

-- a due time q is asked for: 17, then 23, then what it does
abbrev pub due_by : (adds : Bool) → (q : ℕ) → Kept → List ℕ → Did → Did
due_by adds q x cs d =
    if ltb last_time q then stopped TooLate x cs else (if full adds q x.lists then stopped TooManyDueTimes x cs else d)

abbrev pub took_by : Found → ℕ → Kept → List ℕ → Did
took_by none d x cs = stopped NoInputLeft x cs
took_by (found v) d x cs = did Took x (set cs d v)

-- 18 comes before what the instruction itself answers
abbrev pub in_time : (b : ℕ) → Stage → Kept → List ℕ → Did → Did
in_time b stage x cs d = if is_past b stage then stopped OutOfPhase x cs else d

-- the phase begins once
abbrev pub starts_by : Stage → (limit : Option ℕ) → Kept → List ℕ → Did
starts_by Before limit x cs = did (Begins limit) x cs
starts_by During limit x cs = stopped OutOfPhase x cs
starts_by Quiet limit x cs = stopped OutOfPhase x cs
starts_by Limited limit x cs = stopped OutOfPhase x cs

-- the marks alone changed
abbrev pub marked : (Marks → Marks) → Kept → Kept
marked f x = kept (f x.marks) x.lists

-- t threads; body b; i the instruction
module _ (t b : ℕ) (i : Frame) (n : Now) (inputs : List ℕ) (x : Kept) (cs : List ℕ) where
  abbrev q : ℕ
  q = ask_code n.time (get_or cs i.a 0)

  unfoldable pub obeyed : Meaning → Did
  obeyed takes_input = took_by (nth inputs n.taken) i.d x cs
  obeyed wait_event = did (wait_came t b) (waited_on t b i.d x) cs
  obeyed wait_time = due_by true q x cs (did (wait_came t b) (waited_till t b q x) cs)
  obeyed notify = in_time b n.stage x cs (did Goes (triggered_in i.d x) cs)
  obeyed notify_after = in_time b n.stage x cs (due_by (adds_time i.d x) q x cs (did Goes (asked_in q i.d x) cs))
  obeyed request = in_time b n.stage x cs (did Goes (marked (requested_by i.d) x) cs)
  obeyed suspend = in_time b n.stage x cs (did Goes (marked (suspended i.d) x) cs)
  obeyed resume = in_time b n.stage x cs (did Goes (marked (resumed i.d) x) cs)
  obeyed start_limit = starts_by n.stage (Some i.imm) x cs
  obeyed start = starts_by n.stage None x cs
  obeyed takes_imm = stopped UnknownOp x cs
  obeyed (one f) = stopped UnknownOp x cs
  obeyed (two f) = stopped UnknownOp x cs
  obeyed (may f) = stopped UnknownOp x cs
  obeyed load = stopped UnknownOp x cs
  obeyed store = stopped UnknownOp x cs
  obeyed goto = stopped UnknownOp x cs
  obeyed goto_if = stopped UnknownOp x cs
  obeyed (holds k) = stopped UnknownOp x cs
  obeyed unknown = stopped UnknownOp x cs

-- does the body that ran go on where it does not wait: a thread that has suspended itself does not
unfoldable pub stays_at : (t b : ℕ) → Marks → Control
stays_at t b m = if is_thread t b && not (may_run m (b - 1)) then Evaluation else Runs b

-- one more of c inputs
unfoldable pub next_input : (c taken : ℕ) → ℕ
next_input c taken = if ltb taken c then taken + 1 else taken

-- an instruction of body b at place p is completed, or stops the run
abbrev pub completed_to : (t c b p : ℕ) → Result Obeyed Ending → Marks → Now → Now
completed_to t c b p (Err k) m n = goes_to (Over (number_of k) b p) n
completed_to t c b p (Ok Goes) m n = with_left (n.left - 1) (marks_to (stays_at t b m) m n)
completed_to t c b p (Ok Waits) m n = with_left (n.left - 1) (marks_to Evaluation m n)
completed_to t c b p (Ok Took) m n = record n { control = Runs b; left = n.left - 1; taken = next_input c n.taken }
completed_to t c b p (Ok (Begins x)) m n = record n { control = UpdatePhase; limit = x; stage = During; left = n.left - 1 }

abbrev pub completed_at : (b p : ℕ) → Result Obeyed Ending → List ℕ → List ℕ
completed_at b p (Err k) ps = ps
completed_at b p (Ok o) ps = set ps b (p + 1)

abbrev pub completed : (t c b p : ℕ) → Did → Now → List ℕ → Code
completed t c b p d n ps =
    code (completed_to t c b p d.came d.kept.marks n) d.kept.lists (completed_at b p d.came ps) d.cells

-- A body runs: its plain instructions, and what ended them; t is the number of threads --------------------------------

module _ (table inputs : List ℕ) (t base b : ℕ) where
  abbrev pub ran_to : End → (p : ℕ) → Now → Lists → (ps cs : List ℕ) → Code
  ran_to Ended p n l ps cs = code (ends_to t b n) l ps cs
  ran_to (Stopped k) p n l ps cs = code (goes_to (Over (number_of k) b p) n) l ps cs
  ran_to Left p n l ps cs =
      let i : Frame = fields (get_or table (base + p) 0) in
      completed t (length inputs) b p (obeyed t b i n inputs (kept n.marks l) cs (meaning_of i.op)) n ps

abbrev pub after_plain : (table inputs : List ℕ) → (t base b : ℕ) → Out → Now → Lists → List ℕ → Code
after_plain table inputs t base b o n l ps =
    ran_to table inputs t base b o.ran.end o.ran.place (with_left o.ran.left n) l (set ps b o.ran.place) o.cells

unfoldable pub body_run : (table inputs firsts : List ℕ) → (t b : ℕ) → Code → Code
body_run table inputs firsts t b c =
    after_plain table inputs t (get_or firsts b 0) b
    (run_plain c.now.left table (get_or firsts b 0) (get_or firsts (b + 1) 0 - get_or firsts b 0) (get_or c.places b 0) c.cells)
    c.now c.lists c.places

-- One turn ------------------------------------------------------------------------------------------------------

-- evaluation, where the machine stands there or at the turn to it
abbrev pub settled_from : (choices : List ℕ) → Now → Control → Now
settled_from choices n Turn = evaluated choices TimePhase n
settled_from choices n Evaluation = evaluated choices (when_idle (first_asked n.marks)) n
settled_from choices n (Runs b) = n
settled_from choices n UpdatePhase = n
settled_from choices n DeltaPhase = n
settled_from choices n TimePhase = n
settled_from choices n (Over k b p) = n

unfoldable pub settled : (choices : List ℕ) → Now → Now
settled choices n = settled_from choices n n.control

-- and then what follows; after evaluation the machine stands neither there nor at the turn to it
module _ (table inputs firsts : List ℕ) (t : ℕ) (c : Code) where
  abbrev n : Now
  n = c.now

  abbrev l : Lists
  l = c.lists

  abbrev asked : Found
  asked = first_asked n.marks

  abbrev pub turn_from : Control → Code
  turn_from (Runs b) = body_run table inputs firsts t b c
  turn_from UpdatePhase = code (enters_to t asked n) l (enters_at t asked c.places) c.cells
  turn_from DeltaPhase = code (delta_to n l) (delta_in n l) c.places c.cells
  turn_from TimePhase = code (timed_by (least_of l) n l) (served_by (least_of l) n l) c.places c.cells
  turn_from Turn = c
  turn_from Evaluation = c
  turn_from (Over k b p) = c

abbrev pub settled_in : (choices : List ℕ) → Code → Code
settled_in choices c = code (settled choices c.now) c.lists c.places c.cells

unfoldable pub turn : (table choices inputs firsts : List ℕ) → (t : ℕ) → Code → Code
turn table choices inputs firsts t c =
    turn_from table inputs firsts t (settled_in choices c) (settled choices c.now).control

-- is the run over
abbrev pub is_over : Control → Bool
is_over (Runs b) = false
is_over UpdatePhase = false
is_over DeltaPhase = false
is_over Turn = false
is_over Evaluation = false
is_over TimePhase = false
is_over (Over k b p) = true

-- so many turns
unfoldable pub turns : (table choices inputs firsts : List ℕ) → (t : ℕ) → ℕ → Code → Code
turns table choices inputs firsts t zero c = c
turns table choices inputs firsts t (suc k) c = turns table choices inputs firsts t k (turn table choices inputs firsts t c)

-- as the code is given them
abbrev pub body_run_of : Job → (t b : ℕ) → Code → Code
body_run_of j = body_run j.table.now j.inputs.now j.firsts.now

abbrev pub turn_of : Job → (t : ℕ) → Code → Code
turn_of j = turn j.table.now j.choices.now j.inputs.now j.firsts.now

abbrev pub turns_of : Job → (t : ℕ) → ℕ → Code → Code
turns_of j = turns j.table.now j.choices.now j.inputs.now j.firsts.now

-- The first state ------------------------------------------------------------------------------------------------

-- no event pends, no thread waits or is suspended, no update is requested
abbrev pub first_now : (threads budget : ℕ) → Now
first_now t budget = record { control = Runs 0; time = 0; limit = None; stage = Before; left = budget; chosen = 0; taken = 0; marks = first_marks t }

abbrev pub first_lists : (threads events : ℕ) → Lists
first_lists t e = lists (replicate e for_nothing) (replicate t for_nothing) (replicate e 0)

-- main's first plain instructions, and the state after them
abbrev pub first_ran : (table firsts : List ℕ) → (budget : ℕ) → List ℕ → Out
first_ran table firsts budget cs =
    run_plain budget table (get_or firsts 0 0) (get_or firsts 1 0 - get_or firsts 0 0) 0 cs

abbrev pub started : (table firsts : List ℕ) → (t budget : ℕ) → Lists → (ps cs : List ℕ) → Code
started table firsts t budget l ps cs =
    let o : Out = first_ran table firsts budget cs in
    code (first_now t o.ran.left) l (set ps 0 o.ran.place) o.cells

-- the first n hold 0
unfoldable pub zeroed : ℕ → List ℕ → List ℕ
zeroed zero cs = cs
zeroed (suc n) [] = []
zeroed (suc n) (x ∷ cs) = 0 ∷ zeroed n cs

-- What is told at the end ---------------------------------------------------------------------------------------

-- the answer of a run that is over with number k, body b and place p, had it this budget; its fields have 32 bits
abbrev pub answer_as : (budget : ℕ) → Now → (k b p : ℕ) → Told
answer_as budget n k b p = record {
  number = k;
  body = b % 4294967296;
  place = p % 4294967296;
  time = n.time;
  instructions = budget - n.left;
  choices = n.chosen % 4294967296;
  inputs = n.taken % 4294967296;
  threads = not_ended n.marks;
}

abbrev pub refused_at : (number line : ℕ) → Told
refused_at n i = record { number = n; body = 0xff; place = i % 4294967296; time = 0; instructions = 0; choices = 0; inputs = 0; threads = 0 }

-- (a run is over when it is told, so the other cases never arise)
abbrev pub answer_from : (budget : ℕ) → Now → Control → Told
answer_from budget n (Over k b p) = answer_as budget n k b p
answer_from budget n (Runs b) = answer_as budget n 0 0 0
answer_from budget n UpdatePhase = answer_as budget n 0 0 0
answer_from budget n DeltaPhase = answer_as budget n 0 0 0
answer_from budget n Turn = answer_as budget n 0 0 0
answer_from budget n Evaluation = answer_as budget n 0 0 0
answer_from budget n TimePhase = answer_as budget n 0 0 0

unfoldable pub answered : (budget : ℕ) → Now → Told
answered budget n = answer_from budget n n.control

-- with the lent cells
unfoldable pub told : (budget : ℕ) → Code → Outcome
told budget c = record { answer = answered budget c.now; cells = c.cells }
