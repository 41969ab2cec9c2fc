-- What tests say when they are put together, and a choice by a test.
use Rattle.std.specs.Prelude.{ℕ, ◌≡◌, refl, Bool, true, false, ◌&&◌, if◌then◌else◌, eqb, leb}
use Rattle.std.proofs.Common.{arith, eq-eqb, ne_eqb}

-- low ≤ n ≤ high
abbrev pub between : (low n high : ℕ) → Bool
between low n high = leb low n && leb n high

pub true_not_false : {A : Type 0} → true ≡ false → A
true_not_false e =
    let z : ◌≡◌ {A = ℕ} 0 1 = cc in
    absurd (omega arith)

-- both tests hold where their conjunction does
pub and_left : (a b : Bool) → a && b ≡ true → a ≡ true
and_left true b e = refl
and_left false b e = e

pub and_right : (a b : Bool) → a && b ≡ true → b ≡ true
and_right true b e = e
and_right false b e =
    let z : ◌≡◌ {A = ℕ} 0 1 = cc in
    absurd (omega arith)

-- a test of a definition that the code has made
module _ (A : Type 0) (x y z : A) where
  module _ (a b : ℕ) where
    pub pick_eq : a ≡ b → x ≡ y → x ≡ if eqb a b then y else z
    pick_eq h e = rw (eq-eqb a b h) e

    pub pick_ne : (a ≡ b → ⊥) → x ≡ z → x ≡ if eqb a b then y else z
    pick_ne h e = rw (ne_eqb a b h) e

  -- the test of a set, whose answer is b
  module _ (b c : Bool) where
    pub pick_in : b ≡ c → b ≡ true → x ≡ y → x ≡ if c then y else z
    pick_in h k e = rw (← h, k) e

    pub pick_out : b ≡ c → b ≡ false → x ≡ z → x ≡ if c then y else z
    pick_out h k e = rw (← h, k) e

pub ruleset picks = (pick_eq, pick_ne, pick_in, pick_out, refl)
