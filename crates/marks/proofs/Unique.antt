-- No second answer fits a contract that fixes what the answer stands for. Assumes nothing.
use Rattle.std.proofs.Common.{ℕ, ◌≡◌, refl, Option, Some, None}
use Rattle.laws.specs.Unique.{one_answer}
use Rattle.kernel.specs.Search.{Found, none, found}
use Rattle.marks.specs.Marks.{found_of}

abbrev found_code : Found → Option ℕ
found_code (found i) = Some i
found_code none = None

found_back : (a : Option ℕ) → found_code (found_of a) ≡ a
found_back (Some i) = refl
found_back None = refl

pub one_found : (s : Found) (a b : Option ℕ) → found_of a ≡ s → found_of b ≡ s → a ≡ b
one_found = one_answer found_of found_code found_back
