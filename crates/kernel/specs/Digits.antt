-- The numbers of an answer have room in the digits that document 01 prints them in: "2, 2, 4, 8, 8, 4, 4, 4".
use Rattle.std.specs.Prelude.{ℕ, ◌<◌, List}
use Rattle.kernel.specs.Machine.{Job}
use Rattle.kernel.specs.Run.{Answer, asked}

-- two digits give the numbers below 256, four those below 65,536, eight those below 4,294,967,296
pub record InDigits (a : Answer) : Type 0 where
  pub number : a.number < 256
  pub body : a.body < 256
  pub place : a.place < 65536
  pub time : a.time < 4294967296
  pub instructions : a.instructions < 4294967296
  pub choices : a.choices < 65536
  pub inputs : a.inputs < 65536
  pub threads : a.threads < 65536

-- whatever is handed in, a budget being a number of eight digits itself
abbrev pub Digits : Type 0
Digits = (j : Job) (lent : List ℕ) → j.budget < 4294967296 → InDigits (asked j lent).answer
