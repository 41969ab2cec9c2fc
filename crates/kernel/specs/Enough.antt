-- The bound is enough: after so many steps every run is over, and what is over stays as it is.
use Rattle.std.specs.Prelude.{ℕ, ◌≡◌, List}
use Rattle.kernel.specs.Machine.{Job, Control, over, init}
use Rattle.kernel.specs.Step.{steps}
use Rattle.kernel.specs.Run.{bound, outcome_of, runs}

pub record Over (c : Control) : Type 0 where
  pub number : ℕ
  pub body : ℕ
  pub place : ℕ
  pub is : c ≡ over number body place

abbrev pub Enough : Type 0
Enough = (j : Job) → Over (steps j (bound j) (init j)).machine.control

-- so the answer can be read at any step at which the run is over
abbrev pub Final : Type 0
Final = (j : Job) (lent : List ℕ) (n : ℕ) → Over (steps j n (init j)).machine.control → runs j lent ≡ outcome_of j lent (steps j n (init j))
