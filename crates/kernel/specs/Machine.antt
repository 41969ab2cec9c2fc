-- Where the machine stands.
use Rattle.std.specs.Prelude.{ℕ, suc, Bool, true, false, List, [], set, replicate, eqb, if◌then◌else◌}
use Rattle.kernel.specs.Search.{Found, none, found}
use Rattle.kernel.specs.Design.{Table, Body, main, cells}
use Rattle.kernel.specs.Kernel.{History}

infix 10 when◌then◌else◌
infix 10 given◌or_else◌take◌
-- a run of one design under given choices, inputs and budget
pub record Job : Type 0 where
  pub table : Table
  pub choices : List ℕ
  pub inputs : List ℕ
  pub budget : ℕ

-- what is handed in
abbrev pub job_of : (table choices inputs : List ℕ) → (budget : ℕ) → Job
job_of t c i b = record { table = t; choices = c; inputs = i; budget = b }

-- a body runs; one of the phases; the turn to evaluation or time; or the run is over, with number, body and place
pub data Control : Type 0 where
  running : Body → Control
  update_phase delta_phase turn evaluation time_phase : Control
  over : ℕ → ℕ → ℕ → Control

-- all but the history: among it the place of each body, and how many instructions were completed, choices accepted and inputs taken
pub record Machine : Type 0 where
  pub control : Control
  pub cells : List ℕ
  pub places : ℕ → ℕ
  pub instructions : ℕ
  pub choices : ℕ
  pub inputs : ℕ

pub record State : Type 0 where
  pub history : History
  pub machine : Machine

-- "Each cell holds 0 at first."
abbrev pub init : Job → State
init j = record {
  history = [];
  machine = record { control = running main; cells = replicate (cells j.table) 0; places = λ n. 0; instructions = 0; choices = 0; inputs = 0 };
}

-- what a step does: what happens, the newest first, and the machine after it
pub record Out : Type 0 where
  pub happens : History
  pub next : Machine

abbrev pub out : History → Machine → Out
out xs m = record { happens = xs; next = m }

-- by a test; by a number or nothing
unfoldable pub when◌then◌else◌ : Bool → Out → Out → Out
when◌then◌else◌ true x y = x
when◌then◌else◌ false x y = y

unfoldable pub given◌or_else◌take◌ : Found → Out → (ℕ → Out) → Out
given◌or_else◌take◌ none x f = x
given◌or_else◌take◌ (found n) x f = f n

-- the machine with one thing changed
abbrev pub go_to : Control → Machine → Machine
go_to c m = record { control = c; cells = m.cells; places = m.places; instructions = m.instructions; choices = m.choices; inputs = m.inputs }

abbrev pub stored : ℕ → ℕ → Machine → Machine
stored d x m = record { control = m.control; cells = set m.cells d x; places = m.places; instructions = m.instructions; choices = m.choices; inputs = m.inputs }

abbrev pub placed : ℕ → ℕ → Machine → Machine
placed n p m = record { control = m.control; cells = m.cells; places = λ i. if eqb i n then p else m.places i; instructions = m.instructions; choices = m.choices; inputs = m.inputs }

abbrev pub counted : Machine → Machine
counted m = record { control = m.control; cells = m.cells; places = m.places; instructions = suc m.instructions; choices = m.choices; inputs = m.inputs }

abbrev pub chose : Machine → Machine
chose m = record { control = m.control; cells = m.cells; places = m.places; instructions = m.instructions; choices = suc m.choices; inputs = m.inputs }

abbrev pub took : Machine → Machine
took m = record { control = m.control; cells = m.cells; places = m.places; instructions = m.instructions; choices = m.choices; inputs = suc m.inputs }
