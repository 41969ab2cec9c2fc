-- No second answer fits a contract that fixes what the answer stands for. Assumes nothing.
use Rattle.std.proofs.Common.{ℕ, ◌≡◌, refl, Option, Some, None}
use Rattle.laws.specs.Unique.{one_answer}
use Rattle.kernel.specs.Search.{Found, none, found}
use Rattle.dues.specs.Codes.{due_time}

abbrev due_code : Found → Option ℕ
due_code (found t) = Some t
due_code none = None

due_back : (a : Option ℕ) → due_code (due_time a) ≡ a
due_back (Some t) = refl
due_back None = refl

pub one_due : (s : Found) (a b : Option ℕ) → due_time a ≡ s → due_time b ≡ s → a ≡ b
one_due = one_answer due_time due_code due_back
