-- What an answer of the code stands for, in document 01's numbers, and that it stands for nothing else.
use Rattle.std.specs.Prelude.{ℕ, ◌≡◌, refl, eqb, if◌then◌else◌, Result as Answer, Ok, Err}
use Rattle.laws.specs.Unique.{one_answer}
use Rattle.word.specs.Word.{Result, value, stop}
use Rattle.word.specs.declared.ArithmeticError.{ArithmeticError}
use Rattle.word.specs.declared.ArithmeticError.TheVariants.{ZeroDivisor, OutOfRange}

-- "14, 15: zero divisor; signed result outside its range"
abbrev pub number_of : ArithmeticError → ℕ
number_of ZeroDivisor = 14
number_of OutOfRange = 15

unfoldable pub said : Answer ℕ ArithmeticError → Result
said (Ok x) = value x
said (Err e) = stop (number_of e)

-- the answer that stands for a result
back : Result → Answer ℕ ArithmeticError
back (value x) = Ok x
back (stop n) = if eqb n 14 then Err ZeroDivisor else Err OutOfRange

said_back : (a : Answer ℕ ArithmeticError) → back (said a) ≡ a
unfolding said back
said_back (Ok x) = refl
said_back (Err ZeroDivisor) = refl
said_back (Err OutOfRange) = refl

-- so no second answer fits a contract that says what it stands for
pub one_outcome : (s : Result) (a b : Answer ℕ ArithmeticError) → said a ≡ s → said b ≡ s → a ≡ b
one_outcome = one_answer said back said_back
