-- One step of the machine. Document 01, "The kernel", from start on.
use Rattle.std.specs.Prelude.{ℕ, zero, suc, Bool, [], ◌∷◌, ◌++◌, ltb, if◌then◌else◌}
use Rattle.frame.specs.declared.Frame.{Frame}
use Rattle.frame.specs.Ops.{meaning_of}
use Rattle.kernel.specs.Search.{nth, any, first}
use Rattle.kernel.specs.Design.{Table, Body, main, thread, update, threads, updates, number, length_of, instruction}
use Rattle.kernel.specs.Kernel.{delta, at, Kernel, nothing, reads, Happening, ran, ended, dispatched, finished, began, moved, quiet, limited, Stage, before, during, past, kernel}
use Rattle.kernel.specs.Pending.{runnable, is_requested, least_time, above, times_of, served}
use Rattle.kernel.specs.Effect.{View, Effect, stops, sets, takes, goes, does, begins, effect}
use Rattle.kernel.specs.Machine.{Job, Control, running, update_phase, delta_phase, turn, evaluation, time_phase, over, Machine, State, Out, out, when◌then◌else◌, given◌or_else◌take◌, go_to, stored, placed, counted, chose, took}

module _ (j : Job) (s : State) where
  abbrev t : Table
  t = j.table

  abbrev m : Machine
  m = s.machine

  abbrev k : Kernel
  k = kernel s.history

  -- nothing happens, and the machine goes to c
  abbrev pub to : Control → Out
  to c = out [] (go_to c m)

  -- over, at no instruction: "ff and 0 for 0, 10, 11, 20, 21"
  abbrev pub ends : ℕ → Out
  ends n = to (over n 0xff 0)

  -- A body runs ----------------------------------------------------------------------------------------------

  abbrev place_of : Body → ℕ
  place_of b = m.places (number t b)

  -- an instruction of b is due; the budget is not used up
  abbrev pub due : Body → Bool
  due b = ltb (place_of b) (length_of t (number t b))

  abbrev pub paid : Bool
  paid = ltb m.instructions j.budget

  -- an instruction of b is completed, and b goes on at place p
  abbrev goes_on : Body → ℕ → Machine
  goes_on b p = go_to (running b) (placed (number t b) p (counted m))

  -- "A dispatch runs it until it waits, suspends itself or reaches its end."
  abbrev pub runs_on : Body → Kernel → Control
  runs_on main n = running main
  runs_on (thread i) n = if runnable t n i then running (thread i) else evaluation
  runs_on (update u) n = running (update u)

  -- "One that stops the run changes nothing and isn't counted." "Start counts as completed when the phase begins: update phase, .."
  unfoldable pub perform : Body → Effect → Out
  perform b (stops n) = to (over n (number t b) (place_of b))
  perform b (sets d x) = out (ran b nothing ∷ []) (stored d x (goes_on b (suc (place_of b))))
  perform b (takes d x) = out (ran b reads ∷ []) (took (stored d x (goes_on b (suc (place_of b)))))
  perform b (goes p) = out (ran b nothing ∷ []) (goes_on b p)
  perform b (does x) = out (ran b x ∷ []) (go_to (runs_on b (kernel (ran b x ∷ s.history))) (goes_on b (suc (place_of b))))
  perform b (begins l) = out (began l ∷ []) (go_to update_phase (goes_on b (suc (place_of b))))

  abbrev pub view : Body → View
  view b = record {
    body = b;
    place = place_of b;
    cells = m.cells;
    input = nth j.inputs m.inputs;
    kernel = k;
    times = times_of t k;
  }

  -- what the instruction of b comes to
  abbrev pub effect_of : Body → Effect
  effect_of b = let i : Frame = instruction t (number t b) (place_of b) in effect (view b) i (meaning_of i.op)

  -- "11 no start: main ended without a start"; "0 quiet, 10 limit: the phase ended so and main reached its end"
  abbrev pub phase_number : Stage → ℕ
  phase_number before = 11
  phase_number during = 11
  phase_number (past n) = n

  -- "At the end it has ended for good; one dispatched at its end just ends."
  unfoldable pub at_end : Body → Out
  at_end main = ends (phase_number k.stage)
  at_end (thread i) = out (ended i ∷ []) (go_to evaluation m)
  at_end (update u) = out (finished u ∷ []) (go_to update_phase m)

  -- The phases -----------------------------------------------------------------------------------------------

  -- some thread is runnable
  abbrev pub some_runnable : Bool
  some_runnable = any (runnable t k) (threads t)

  abbrev pub dispatch : ℕ → Out
  dispatch c = out (dispatched c ∷ []) (go_to (running (thread c)) (chose m))

  -- an update runs from its first instruction
  abbrev pub enter : ℕ → Out
  enter u = out [] (go_to (running (update u)) (placed (number t (update u)) 0 m))

  -- "After the phase main goes on to its end."
  abbrev pub closes : Happening → Out
  closes x = out (x ∷ []) (go_to (running main) m)

  -- "else time"; "or the time step again if no thread is runnable"
  abbrev pub time_next : Out
  time_next = to time_phase

  abbrev pub move_to : ℕ → Out
  move_to d = out (served t k (at d) ++ (moved d ∷ [])) (go_to turn m)

  unfoldable pub step_from : Control → Out
  -- "22: an instruction is due and the budget is used up"
  step_from (running b) =
      when due b then (when paid then perform b (effect_of b) else perform b (stops 22)) else at_end b
  -- "Evaluation: while a thread is runnable, the next choice byte names the one dispatched. Then the requested updates run"
  -- "20: choices used up with a thread runnable"; "21: choice names a thread that isn't runnable"
  step_from evaluation =
      when some_runnable
      then (given nth j.choices m.choices or_else ends 20 take (λ c. when runnable t k c then dispatch c else ends 21))
      else to update_phase
  -- "the requested updates run, each once, by rising number .. Then the delta phase"
  step_from update_phase = given first (is_requested t k) (updates t) or_else to delta_phase take enter
  -- "the delta phase: all delta work is done together"
  step_from delta_phase = out (served t k delta) (go_to turn m)
  -- "If a thread is runnable, evaluation follows, else time."
  step_from turn = when some_runnable then to evaluation else time_next
  -- "Time: the least due time of events and threads. None: the phase is quiet. Above the limit: it ends, and time stays.
  -- Otherwise time becomes it, all due then is triggered or freed together, and evaluation follows, or the time step again"
  step_from time_phase =
      given least_time t k or_else closes quiet take (λ d. when above d k.limit then closes limited else move_to d)
  step_from (over n b p) = to (over n b p)

abbrev pub advance : State → Out → State
advance s o = record { history = o.happens ++ s.history; machine = o.next }

unfoldable pub step : Job → State → State
step j s = advance s (step_from j s s.machine.control)

unfoldable pub steps : Job → ℕ → State → State
steps j zero s = s
steps j (suc n) s = steps j n (step j s)
