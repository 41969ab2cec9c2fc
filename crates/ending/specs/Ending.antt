-- The number of each reason why a run is over, and the reason that a number names.
use Rattle.std.specs.Prelude.{ℕ, ◌≤◌, ◌<◌, ◌≡◌, refl, List, [], ◌∷◌, eqb, if◌then◌else◌}
use Rattle.std.proofs.Common.{sym, ap, ◌∙◌}
use Rattle.laws.specs.Span.{in_span}
use Rattle.ending.specs.declared.Ending.{Ending}
use Rattle.ending.specs.declared.Ending.TheVariants.{Quiet, UnknownOp, Limit, NoStart, AssertFailed, AssumeFailed, ZeroDivisor, OutOfRange, OutOfRegion, TooLate, OutOfPhase, NoInputLeft, NoChoiceLeft, NotRunnable, NoBudgetLeft, TooManyDueTimes}

-- "Numbers returned"
abbrev pub number_of : Ending → ℕ
number_of Quiet = 0
number_of UnknownOp = 4
number_of Limit = 10
number_of NoStart = 11
number_of AssertFailed = 12
number_of AssumeFailed = 13
number_of ZeroDivisor = 14
number_of OutOfRange = 15
number_of OutOfRegion = 16
number_of TooLate = 17
number_of OutOfPhase = 18
number_of NoInputLeft = 19
number_of NoChoiceLeft = 20
number_of NotRunnable = 21
number_of NoBudgetLeft = 22
number_of TooManyDueTimes = 23

-- the first of these that has the number; a number that none has does not arise
abbrev first_of : List Ending → ℕ → Ending
first_of [] n = Quiet
first_of (e ∷ es) n = if eqb n (number_of e) then e else first_of es n

abbrev pub ending_of : ℕ → Ending
ending_of n =
    first_of (UnknownOp ∷ Limit ∷ NoStart ∷ AssertFailed ∷ AssumeFailed ∷ ZeroDivisor ∷ OutOfRange ∷ OutOfRegion ∷ TooLate ∷ OutOfPhase ∷ NoInputLeft ∷ NoChoiceLeft ∷ NotRunnable ∷ NoBudgetLeft ∷ TooManyDueTimes ∷ []) n

-- each number names its reason, so that no two reasons have one number
pub named : (e : Ending) → ending_of (number_of e) ≡ e
named Quiet = refl
named UnknownOp = refl
named Limit = refl
named NoStart = refl
named AssertFailed = refl
named AssumeFailed = refl
named ZeroDivisor = refl
named OutOfRange = refl
named OutOfRegion = refl
named TooLate = refl
named OutOfPhase = refl
named NoInputLeft = refl
named NoChoiceLeft = refl
named NotRunnable = refl
named NoBudgetLeft = refl
named TooManyDueTimes = refl

pub one_ending : (a b : Ending) → number_of a ≡ number_of b → a ≡ b
one_ending a b e = sym (named a) ∙ ap ending_of e ∙ named b

-- and the numbers from 10 to 23 are all taken
pub numbered : (n : ℕ) → 10 ≤ n → n < 24 → number_of (ending_of n) ≡ n
numbered =
    in_span (λ n. number_of (ending_of n) ≡ n) 10 14
    (refl, (refl, (refl, (refl, (refl, (refl, (refl, (refl, (refl, (refl, (refl, (refl, (refl, (refl, tt))))))))))))))
