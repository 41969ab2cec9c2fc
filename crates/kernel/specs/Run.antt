-- A run and its answer.
use Rattle.std.specs.Prelude.{ℕ, ◌+◌, ◌*◌, ◌^◌, List, eqb, ltb, length, if◌then◌else◌}
use Rattle.laws.specs.Lists.{over as stored_over}
use Rattle.image.specs.Limits.{most_cells, most_choices, most_inputs}
use Rattle.image.specs.Judge.{judged}
use Rattle.kernel.specs.Search.{sum}
use Rattle.kernel.specs.Design.{Table, threads}
use Rattle.kernel.specs.Kernel.{Kernel, kernel}
use Rattle.kernel.specs.Machine.{Job, Control, running, update_phase, delta_phase, turn, evaluation, time_phase, over, State, init}
use Rattle.kernel.specs.Step.{steps}

-- "A run answers number, body and place of the stopping instruction, time, instructions completed, choices accepted, inputs taken, and the
-- threads not ended, thread 0 as bit 0"
pub record Answer : Type 0 where
  pub number : ℕ
  pub body : ℕ
  pub place : ℕ
  pub time : ℕ
  pub instructions : ℕ
  pub choices : ℕ
  pub inputs : ℕ
  pub threads : ℕ

-- the answer, and the lent cells afterwards
pub record Outcome : Type 0 where
  pub answer : Answer
  pub cells : List ℕ

abbrev pub not_ended : Table → Kernel → ℕ
not_ended t k = sum (λ i. if (k.threads i).ended then 0 else 2 ^ i) (threads t)

-- a run that is over with number n, body b and place p; "a run [fills] the first C cells; the rest is untouched"
abbrev pub ends : Job → List ℕ → State → ℕ → ℕ → ℕ → Outcome
ends j lent s n b p = record {
  answer = record {
    number = n;
    body = b;
    place = p;
    time = (kernel s.history).now;
    instructions = s.machine.instructions;
    choices = s.machine.choices;
    inputs = s.machine.inputs;
    threads = not_ended j.table (kernel s.history);
  };
  cells = stored_over s.machine.cells lent;
}

-- (every run is over after its bound of steps, so the other cases never arise)
abbrev pub outcome_from : Job → List ℕ → State → Control → Outcome
outcome_from j lent s (over n b p) = ends j lent s n b p
outcome_from j lent s (running b) = ends j lent s 0 0 0
outcome_from j lent s update_phase = ends j lent s 0 0 0
outcome_from j lent s delta_phase = ends j lent s 0 0 0
outcome_from j lent s turn = ends j lent s 0 0 0
outcome_from j lent s evaluation = ends j lent s 0 0 0
outcome_from j lent s time_phase = ends j lent s 0 0 0

abbrev pub outcome_of : Job → List ℕ → State → Outcome
outcome_of j lent s = outcome_from j lent s s.machine.control

-- eight steps for each instruction and each choice, and one
abbrev pub bound : Job → ℕ
bound j = 8 * (j.budget + length j.choices) + 1

-- the run of an accepted table
unfoldable pub runs : Job → List ℕ → Outcome
runs j lent = outcome_of j lent (steps j (bound j) (init j))

-- "Refusals give ff, the line, and zeros." "A refusal (1 to 9) changes no buffer."
abbrev pub refused : (number line : ℕ) → List ℕ → Outcome
refused n i lent = record {
  answer = record { number = n; body = 0xff; place = i; time = 0; instructions = 0; choices = 0; inputs = 0; threads = 0 };
  cells = lent;
}

-- "Run: 9 (choices at line 1, then inputs at line 2), 8 (cell buffer under 256), then 2 to 7 over the whole table."
unfoldable pub asked : Job → List ℕ → Outcome
asked j lent =
    if ltb most_choices (length j.choices) then refused 9 1 lent
    else (if ltb most_inputs (length j.inputs) then refused 9 2 lent
    else (if ltb (length lent) most_cells then refused 8 0 lent
    else (if eqb (judged j.table).number 0 then runs j lent
    else refused (judged j.table).number (judged j.table).line lent)))
