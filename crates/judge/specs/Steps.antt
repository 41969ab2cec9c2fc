-- Words for the contracts of the private functions: how far a loop has come. Nothing public speaks of them.
use Rattle.std.specs.Prelude.{ℕ, ◌+◌, ◌≤◌, ◌<◌, ◌≡◌, List, length, Result, Ok, Err, ⊤}
use Rattle.frame.specs.declared.Counts.{Counts}
use Rattle.image.specs.declared.Refusal.{Refusal}
use Rattle.image.specs.Limits.{most_instructions}
use Rattle.image.specs.Layout.{counts, bodies, len, lengths, first}
use Rattle.image.specs.Judge.{said, rest}

-- what a body's instructions answer: on to the line past them, or the answer of the whole
abbrev pub Passed : List ℕ → (at n : ℕ) → Result ⊤ Refusal → Type 0
Passed fs at n (Ok _) = (rest fs at ≡ rest fs (at + n)) × (at + n ≤ length fs)
Passed fs at n (Err r) = said (Err r) ≡ rest fs at

-- what is known once the header is looked at
pub record Begun (fs : List ℕ) (c : Counts) : Type 0 where
  pub some : 0 < length fs
  pub counted : c ≡ counts fs

-- and once the body frames are
pub record Headed (fs : List ℕ) (c : Counts) (n : ℕ) : Type 0 where
  pub counted : c ≡ counts fs
  pub all : n ≡ bodies fs
  pub there : 1 + n ≤ length fs
  pub few : lengths fs n ≤ most_instructions

-- where the instructions of body k begin
pub record Stands (fs : List ℕ) (c : Counts) (k n at : ℕ) : Type 0 where
  pub counted : c ≡ counts fs
  pub one : k < bodies fs
  pub long : n ≡ len fs k
  pub begins : at ≡ first fs k
  pub there : at ≤ length fs
