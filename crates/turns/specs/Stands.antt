-- When the code's numbers stand for a state of the machine. Nothing public speaks of it.
use Rattle.std.specs.Prelude.{ℕ, zero, suc, ◌+◌, ◌-◌, ◌<◌, ◌≡◌, List, ◌++◌, ltb, length, get_or, if◌then◌else◌, Option, Some, None}
use Rattle.image.specs.Layout.{bodies, first}
use Rattle.kernel.specs.Search.{Found, none, found}
use Rattle.kernel.specs.Design.{Table, Body, main, thread, update, threads as threads_of, cells as cells_of}
use Rattle.kernel.specs.Kernel.{Kernel, kernel, Stage as KernelStage, before, during, past}
use Rattle.kernel.specs.Machine.{Job, Control as Place, running, update_phase, delta_phase, turn, evaluation, time_phase, over, Machine, State}
use Rattle.kernel.proofs.Fits.{Fits}
use Rattle.shows.specs.Shows.{Lists, kept, Shows}
use Rattle.turns.specs.declared.Control.{Control}
use Rattle.turns.specs.declared.Control.TheVariants.{Runs, UpdatePhase, DeltaPhase, Turn, Evaluation, TimePhase, Over}
use Rattle.turns.specs.declared.Stage.{Stage}
use Rattle.turns.specs.declared.Stage.TheVariants.{Before, During, Quiet, Limited}
use Rattle.turns.specs.declared.Now.{Now}

-- "Bodies are numbered main 0, then threads, then updates": the body of number b, of a design of t threads
unfoldable pub body_of : (t b : ℕ) → Body
body_of t zero = main
body_of t (suc k) = if ltb k t then thread k else update (k - t)

-- where the machine stands
abbrev pub place_of : (t : ℕ) → Control → Place
place_of t (Runs b) = running (body_of t b)
place_of t UpdatePhase = update_phase
place_of t DeltaPhase = delta_phase
place_of t Turn = turn
place_of t Evaluation = evaluation
place_of t TimePhase = time_phase
place_of t (Over n b p) = over n b p

-- the limit
abbrev pub limit_of : Option ℕ → Found
limit_of None = none
limit_of (Some limit) = found limit

-- the stage; after the phase the kernel's names the number that a quiet run ends with, or one that its limit ends
abbrev pub stage_of : Stage → KernelStage
stage_of Before = before
stage_of During = during
stage_of Quiet = past 0
stage_of Limited = past 10

-- the kernel's single numbers, and the machine's; the lent cells are the design's, and the rest
pub record Counts (j : Job) (rest : List ℕ) (k : Kernel) (m : Machine) (n : Now) (ps cs : List ℕ) : Type 0 where
  pub control : place_of (threads_of j.table) n.control ≡ m.control
  pub time : n.time ≡ k.now
  pub limit : limit_of n.limit ≡ k.limit
  pub stage : stage_of n.stage ≡ k.stage
  pub instructions : m.instructions + n.left ≡ j.budget
  pub choices : n.chosen ≡ m.choices
  pub inputs : n.taken ≡ m.inputs
  pub places : (b : ℕ) → b < bodies j.table → get_or ps b 0 ≡ m.places b
  pub all_places : length ps ≡ bodies j.table
  pub cells : cs ≡ m.cells ++ rest
  pub all_cells : length m.cells ≡ cells_of j.table

pub record Stands (j : Job) (rest : List ℕ) (s : State) (n : Now) (l : Lists) (places cells : List ℕ) : Type 0 where
  pub shows : Shows j.table (kernel s.history) (kept n.marks l)
  pub counts : Counts j rest (kernel s.history) s.machine n places cells
  pub fits : Fits j.table (kernel s.history) s.machine.control

-- the lines of the first n bodies' first instructions
pub record Firsts (t : Table) (n : ℕ) (fs : List ℕ) : Type 0 where
  pub lines : (k : ℕ) → k < n → get_or fs k 0 ≡ first t k
