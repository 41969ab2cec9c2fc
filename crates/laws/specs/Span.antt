-- What the arms of a `match` on a number know, single numbers and ranges, turned into a fact about the number.
use Rattle.std.specs.Prelude.{◌≡◌, Bool, true, false, ◌||◌, ◌&&◌, ◌⊎◌, List, [], ◌∷◌, ℕ, zero, suc, ◌+◌, ◌≤◌, ◌<◌, T, eqb, leb}
use Rattle.std.proofs.Common.{sym, subst, inl, inr, arith, eqb→eq, leb→le}
use Rattle.std.proofs.Math.Decide.{ℕ_discrete}

-- a fact of each of the k numbers from lo holds of any number among them
abbrev pub Each : (ℕ → Type 0) → ℕ → ℕ → Type 0
Each P lo zero = Unit {0}
Each P lo (suc k) = P lo × Each P (suc lo) k

at_or_past : (P : ℕ → Type 0) (lo n : ℕ) → P lo → (suc lo ≤ n → P n) → lo ≤ n → Dec (n ≡ lo) → P n
at_or_past P lo n p f a (yes e) = subst P (sym e) p
at_or_past P lo n p f a (no e) = f (omega arith)

pub in_span : (P : ℕ → Type 0) (lo k : ℕ) → Each P lo k → (n : ℕ) → lo ≤ n → n < lo + k → P n
in_span P lo zero h n a b = absurd (omega arith)
in_span P lo (suc k) h n a b =
    let b' : n < suc lo + k = omega arith in
    at_or_past P lo n h.0 (λ a'. in_span P (suc lo) k h.1 n a' b') a (ℕ_discrete n lo)

-- the numbers of an arm, the first and the others
abbrev pub Arm : Type 0
Arm = ℕ × List ℕ

-- n is one of an arm's numbers; n is in no such arm; n is in none of the ranges
abbrev pub OneOf : ℕ → List ℕ → ℕ → Type 0
OneOf k [] n = n ≡ k
OneOf k (j ∷ ks) n = (n ≡ k) ⊎ OneOf j ks n

abbrev pub NoneOf : List Arm → ℕ → Type 0
NoneOf [] n = Unit {0}
NoneOf (g ∷ gs) n = (OneOf g.0 g.1 n → ⊥) × NoneOf gs n

abbrev pub Outside : List (ℕ × ℕ) → ℕ → Type 0
Outside [] n = Unit {0}
Outside (r ∷ rs) n = (r.0 ≤ n → n ≤ r.1 → ⊥) × Outside rs n

-- what the default arm is told, nested to the left
abbrev pub Rest : Type 0 → List Arm → ℕ → Type 0
Rest A [] n = A
Rest A (g ∷ gs) n = Rest (A × (OneOf g.0 g.1 n → ⊥)) gs n

turn : (gs : List Arm) (n : ℕ) (A : Type 0) → Rest A gs n → A × NoneOf gs n
turn [] n A h = (h, tt)
turn (g ∷ gs) n A h =
    let r : (A × (OneOf g.0 g.1 n → ⊥)) × NoneOf gs n = turn gs n (A × (OneOf g.0 g.1 n → ⊥)) h in
    (r.0.0, (r.0.1, r.1))

abbrev one_of : ℕ → List ℕ → ℕ → Bool
one_of k [] n = eqb n k
one_of k (j ∷ ks) n = eqb n k || one_of j ks n

abbrev member : List Arm → ℕ → Bool
member [] n = false
member (g ∷ gs) n = one_of g.0 g.1 n || member gs n

abbrev covered : List (ℕ × ℕ) → ℕ → Bool
covered [] n = false
covered (r ∷ rs) n = (leb r.0 n && leb n r.1) || covered rs n

or_case : (a b : Bool) (X : Type 0) → (T a → X) → (T b → X) → T (a || b) → X
or_case true b X f g t = f tt
or_case false b X f g t = g t

and_l : (a b : Bool) → T (a && b) → T a
and_l true b t = tt
and_l false b t = t

and_r : (a b : Bool) → T (a && b) → T b
and_r true b t = t
and_r false b t = absurd t

one_of_lem : (k : ℕ) (ks : List ℕ) (n : ℕ) → T (one_of k ks n) → OneOf k ks n
one_of_lem k [] n t = eqb→eq n k t
one_of_lem k (j ∷ ks) n t = or_case (eqb n k) (one_of j ks n) _ (λ u. inl (eqb→eq n k u)) (λ u. inr (one_of_lem j ks n u)) t

not_member : (gs : List Arm) (n : ℕ) → NoneOf gs n → T (member gs n) → ⊥
not_member [] n h t = t
not_member (g ∷ gs) n h t =
    or_case (one_of g.0 g.1 n) (member gs n) ⊥ (λ u. h.0 (one_of_lem g.0 g.1 n u)) (λ u. not_member gs n h.1 u) t

not_covered : (rs : List (ℕ × ℕ)) (n : ℕ) → Outside rs n → T (covered rs n) → ⊥
not_covered [] n h t = t
not_covered (r ∷ rs) n h t =
    or_case (leb r.0 n && leb n r.1) (covered rs n) ⊥
    (λ u. h.0 (leb→le _ _ (and_l (leb r.0 n) (leb n r.1) u)) (leb→le _ _ (and_r (leb r.0 n) (leb n r.1) u)))
    (λ u. not_covered rs n h.1 u) t

abbrev all : (ℕ → Bool) → ℕ → Bool
all f zero = true
all f (suc k) = f k && all f k

last_or_before : (f : ℕ → Bool) (k n : ℕ) → T (f k) → (n < k → T (f n)) → n < suc k → Dec (n ≡ k) → T (f n)
last_or_before f k n t g h (yes e) = subst (λ (x : ℕ). T (f x)) (sym e) t
last_or_before f k n t g h (no e) = g (omega arith)

all_at : (f : ℕ → Bool) (k n : ℕ) → T (all f k) → n < k → T (f n)
all_at f zero n t h = absurd (omega arith)
all_at f (suc k) n t h =
    last_or_before f k n (and_l (f k) (all f k) t) (λ l. all_at f k n (and_r (f k) (all f k) t) l) h (ℕ_discrete n k)

-- the test, computed over all bytes, that an arm has the number or else `free` holds of it
abbrev pub AllTold : (ℕ → Bool) → List Arm → List (ℕ × ℕ) → Type 0
AllTold free gs rs = T (all (λ n. member gs n || (covered rs n || free n)) 256)

-- so `free` holds of a byte in the default arms
pub the_rest : (free : ℕ → Bool) (gs : List Arm) (rs : List (ℕ × ℕ)) → AllTold free gs rs → (n : ℕ) → n < 256 → Rest (Unit {0}) gs n → Outside rs n → T (free n)
the_rest free gs rs t n l h g =
    or_case (member gs n) (covered rs n || free n) (T (free n)) (λ u. absurd (not_member gs n (turn gs n (Unit {0}) h).1 u))
    (or_case (covered rs n) (free n) (T (free n)) (λ u. absurd (not_covered rs n g u)) (λ u. u))
    (all_at (λ m. member gs m || (covered rs m || free m)) 256 n t l)
