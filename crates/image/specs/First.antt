-- What the judge says, without its walk: each answer exactly when.
use Rattle.std.specs.Prelude.{ℕ, ◌<◌, ◌≡◌, List, length}
use Rattle.image.specs.Layout.{due}
use Rattle.image.specs.Judge.{Said, say, fault, judged}

-- line i is the first faulty line, and n its fault's number
pub record FirstFault (fs : List ℕ) (n i : ℕ) : Type 0 where
  pub there : i < length fs
  pub number : fault fs i ≡ n
  pub some : 0 < n
  pub before : (j : ℕ) → j < i → fault fs j ≡ 0

-- no line has a fault
abbrev pub Faultless : List ℕ → Type 0
Faultless fs = (j : ℕ) → j < length fs → fault fs j ≡ 0

-- when a table is to be answered so
pub data Answers (fs : List ℕ) : Said → Type 0 where
  faulty : (n i : ℕ) → FirstFault fs n i → Answers fs (say n i)
  short : Faultless fs → length fs < due fs → Answers fs (say 6 (length fs))
  extra : Faultless fs → due fs < length fs → Answers fs (say 7 (due fs))
  accepted : Faultless fs → length fs ≡ due fs → Answers fs (say 0 (length fs))

-- the judge says s exactly when s answers the table
pub record Exactly (fs : List ℕ) : Type 0 where
  pub says : Answers fs (judged fs)
  pub only : (s : Said) → Answers fs s → judged fs ≡ s
