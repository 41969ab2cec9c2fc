-- A number or nothing, and searches over the numbers below a bound.
use Rattle.std.specs.Prelude.{ℕ, zero, suc, ◌+◌, min, Bool, true, false, ◌||◌, List, [], ◌∷◌, eqb, if◌then◌else◌}

pub data Found : Type 0 where
  none : Found
  found : ℕ → Found

-- place i of a list
unfoldable pub nth : List ℕ → ℕ → Found
nth [] i = none
nth (x ∷ l) zero = found x
nth (x ∷ l) (suc i) = nth l i

-- one below n passes the test
unfoldable pub any : (ℕ → Bool) → ℕ → Bool
any p zero = false
any p (suc n) = p n || any p n

-- the first below n that passes the test
abbrev pub first_of : Found → Bool → ℕ → Found
first_of (found i) b n = found i
first_of none true n = found n
first_of none false n = none

unfoldable pub first : (ℕ → Bool) → ℕ → Found
first p zero = none
first p (suc n) = first_of (first p n) (p n) n

-- the least that f gives below n
abbrev pub lesser : Found → Found → Found
lesser none y = y
lesser (found t) none = found t
lesser (found t) (found u) = found (min t u)

unfoldable pub least : (ℕ → Found) → ℕ → Found
least f zero = none
least f (suc n) = lesser (f n) (least f n)

unfoldable pub sum : (ℕ → ℕ) → ℕ → ℕ
sum f zero = 0
sum f (suc n) = f n + sum f n

-- what f gives for those below n that pass the test, the last first
abbrev pub add_if : {A : Type 0} → Bool → A → List A → List A
add_if true x l = x ∷ l
add_if false x l = l

unfoldable pub each : {A : Type 0} → (ℕ → Bool) → (ℕ → A) → ℕ → List A
each p f zero = []
each p f (suc n) = add_if (p n) (f n) (each p f n)

-- g, changed by f at place i
abbrev pub edit : {A : Type 0} → ℕ → (A → A) → (ℕ → A) → ℕ → A
edit i f g j = if eqb j i then f (g j) else g j
