-- No second answer fits: a contract that fixes what an answer stands for fixes the answer, where what it stands for gives it back.
use Rattle.std.specs.Prelude.{◌≡◌}
use Rattle.std.proofs.Common.{sym, ap, ◌∙◌}

-- `says` is what an answer stands for, `back` the answer that stands for it
pub one_answer : {A B : Type 0} (says : A → B) (back : B → A) → ((a : A) → back (says a) ≡ a) → (s : B) (a b : A) → says a ≡ s → says b ≡ s → a ≡ b
one_answer says back h s a b p q = sym (h a) ∙ ap back (p ∙ sym q) ∙ h b

-- and where the answer is what the definition gives, it is the only one
pub one_value : {A : Type 0} (s a b : A) → a ≡ s → b ≡ s → a ≡ b
one_value s a b p q = p ∙ sym q
