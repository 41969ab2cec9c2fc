-- Laws of the searches.
use Prim.Native.Nat.{ℕ, zero, suc, min, ◌+◌, ◌≤◌, ◌<◌}
use mathlib.Core.Path.{◌≡◌, refl, ap, ◌∙◌, sym}
use mathlib.Core.List.{List, [], ◌∷◌}
use mathlib.Core.Bool.{Bool, true, false, ◌||◌, true≢false}
use mathlib.Core.Logic.{◌⊎◌, inl, inr}
use native.Mathlib.Omega.{arith}
use lib.Dec.{ltb, eqb}
use lib.ListN.{length, get_or}
use borrow.Author.Tests.{ltb-true, ltb-false, eqb-true, eqb-false}
use Rattle.kernel.specs.Search.{Found, none, found, nth, any, first_of, first, lesser, least, sum}

-- something is not nothing
pub unfound : (u : ℕ) → none ≡ found u → ⊥
unfound u q = let y : ◌≡◌ {A = ℕ} 0 1 = cc in omega arith

-- below n + 1: place n, or below n
pub last : (k n : ℕ) → k < suc n → (k ≡ n) ⊎ (k < n)
last k n h = go (ltb k n) refl
  where
    go : (b : Bool) → ltb k n ≡ b → (k ≡ n) ⊎ (k < n)
    go true q = inr (ltb-true k n q)
    go false q = inl (omega (arith, ltb-false))

-- Any --------------------------------------------------------------------------------------------------------

or_none : (a b : Bool) → a || b ≡ false → (a ≡ false) × (b ≡ false)
or_none true b q = absurd (true≢false q)
or_none false b q = (refl, q)

pub any_none : (p : ℕ → Bool) (n : ℕ) → any p n ≡ false → (k : ℕ) → k < n → p k ≡ false
unfolding any
any_none p zero q k h = absurd (omega arith)
any_none p (suc n) q k h = go (last k n h) (any_none p n (or_none (p n) (any p n) q).1 k)
  where
    go : (k ≡ n) ⊎ (k < n) → (k < n → p k ≡ false) → p k ≡ false
    go (inl e) r = rw e (or_none (p n) (any p n) q).0
    go (inr l) r = r l

pub any_all : (p : ℕ → Bool) (n : ℕ) → ((k : ℕ) → k < n → p k ≡ false) → any p n ≡ false
unfolding any
any_all p zero h = refl
any_all p (suc n) h = rw (h n (omega arith)) (any_all p n (λ k l. h k (omega arith)))

pub any_some : (p : ℕ → Bool) (n : ℕ) → any p n ≡ true → (k : ℕ) × (k < n) × (p k ≡ true)
unfolding any
any_some p zero q = absurd (true≢false (sym q))
any_some p (suc n) q = go (p n) refl q (any_some p n)
  where
    go : (b : Bool) → p n ≡ b → b || any p n ≡ true → (any p n ≡ true → (k : ℕ) × (k < n) × (p k ≡ true)) → (k : ℕ) × (k < suc n) × (p k ≡ true)
    go true z r f = (n, omega arith, z)
    go false z r f = let w = f r in (w.0, omega arith, w.2)

-- The first --------------------------------------------------------------------------------------------------

pub first_none : (p : ℕ → Bool) (n : ℕ) → first p n ≡ none → (k : ℕ) → k < n → p k ≡ false
unfolding first
first_none p zero q k h = absurd (omega arith)
first_none p (suc n) q k h = go (first p n) refl (p n) refl q (last k n h) (first_none p n)
  where
    go : (f : Found) → first p n ≡ f → (b : Bool) → p n ≡ b → first_of f b n ≡ none → (k ≡ n) ⊎ (k < n) → (first p n ≡ none → (i : ℕ) → i < n → p i ≡ false) → p k ≡ false
    go (found i) e true z r l f = absurd (unfound _ (sym r))
    go (found i) e false z r l f = absurd (unfound _ (sym r))
    go none e true z r l f = absurd (unfound n (sym r))
    go none e false z r (inl s) f = rw s z
    go none e false z r (inr l) f = f e k l

pub first_all : (p : ℕ → Bool) (n : ℕ) → ((k : ℕ) → k < n → p k ≡ false) → first p n ≡ none
unfolding first
first_all p zero h = refl
first_all p (suc n) h = rw (first_all p n (λ k l. h k (omega arith)), h n (omega arith))

-- it is below n, passes the test, and none before it does
pub record First (p : ℕ → Bool) (n i : ℕ) : Type 0 where
  pub there : i < n
  pub passes : p i ≡ true
  pub lowest : (k : ℕ) → k < i → p k ≡ false

pub first_found : (p : ℕ → Bool) (n i : ℕ) → first p n ≡ found i → First p n i
unfolding first
first_found p zero i q = absurd (unfound i q)
first_found p (suc n) i q = go (first p n) refl (p n) refl q (first_found p n i)
  where
    go : (f : Found) → first p n ≡ f → (b : Bool) → p n ≡ b → first_of f b n ≡ found i → (first p n ≡ found i → First p n i) → First p (suc n) i
    go (found k) e b z r y = let w = y (e ∙ r) in record { there = omega arith; passes = w.passes; lowest = w.lowest }
    go none e true z r y = let s : n ≡ i = cc in record { there = omega arith; passes = rw (← s) z; lowest = λ k l. first_none p n e k (omega arith) }
    go none e false z r y = absurd (unfound i r)

-- The least --------------------------------------------------------------------------------------------------

pub lesser_none : (a b : Found) → lesser a b ≡ none → (a ≡ none) × (b ≡ none)
lesser_none none b q = (refl, q)
lesser_none (found t) none q = absurd (unfound t (sym q))
lesser_none (found t) (found u) q = absurd (unfound (min t u) (sym q))

-- t is one of the two, and no more than either
pub record Least (a b : Found) (t : ℕ) : Type 0 where
  pub hit : (a ≡ found t) ⊎ (b ≡ found t)
  pub left : (u : ℕ) → a ≡ found u → t ≤ u
  pub right : (u : ℕ) → b ≡ found u → t ≤ u

pub lesser_found : (a b : Found) (t : ℕ) → lesser a b ≡ found t → Least a b t
lesser_found none b t q =
    record { hit = inr q; left = λ u e. absurd (unfound u e); right = λ u e. let s : t ≡ u = cc in omega arith }
lesser_found (found v) none t q =
    record { hit = inl q; left = λ u e. let s : t ≡ u = cc in omega arith; right = λ u e. absurd (unfound u e) }
lesser_found (found v) (found w) t q =
    let s : min v w ≡ t = cc in
    record { hit = go (ltb v w) refl s; left = λ u e. let z : v ≡ u = cc in omega arith; right = λ u e. let z : w ≡ u = cc in omega arith }
  where
    go : (b : Bool) → ltb v w ≡ b → min v w ≡ t → (found v ≡ found t) ⊎ (found w ≡ found t)
    go true z s = let r : v ≡ t = omega (arith, ltb-true) in inl (ap found r)
    go false z s = let r : w ≡ t = omega (arith, ltb-false) in inr (ap found r)

pub least_none : (f : ℕ → Found) (n : ℕ) → least f n ≡ none → (k : ℕ) → k < n → f k ≡ none
unfolding least
least_none f zero q k h = absurd (omega arith)
least_none f (suc n) q k h = go (lesser_none (f n) (least f n) q) (last k n h) (least_none f n)
  where
    go : (f n ≡ none) × (least f n ≡ none) → (k ≡ n) ⊎ (k < n) → (least f n ≡ none → (i : ℕ) → i < n → f i ≡ none) → f k ≡ none
    go z (inl s) g = rw s z.0
    go z (inr l) g = g z.1 k l

pub least_low : (f : ℕ → Found) (n : ℕ) (k : ℕ) → k < n → (u t : ℕ) → f k ≡ found u → least f n ≡ found t → t ≤ u
unfolding least
least_low f zero k h u t e q = absurd (omega arith)
least_low f (suc n) k h u t e q =
    go (last k n h) (lesser_found (f n) (least f n) t q) (least f n) refl (λ l v z. least_low f n k l u v e z)
  where
    go : (k ≡ n) ⊎ (k < n) → Least (f n) (least f n) t → (b : Found) → least f n ≡ b → (k < n → (v : ℕ) → least f n ≡ found v → v ≤ u) → t ≤ u
    go (inl s) l b z g = l.left u (rw s at e)
    go (inr m) l none z g = absurd (unfound u (sym (least_none f n z k m) ∙ e))
    go (inr m) l (found v) z g = omega (arith, l.right v z, g m v z)

pub least_hit : (f : ℕ → Found) (n t : ℕ) → least f n ≡ found t → (k : ℕ) × (k < n) × (f k ≡ found t)
unfolding least
least_hit f zero t q = absurd (unfound t q)
least_hit f (suc n) t q = go (lesser_found (f n) (least f n) t q).hit (least_hit f n t)
  where
    go : (f n ≡ found t) ⊎ (least f n ≡ found t) → (least f n ≡ found t → (k : ℕ) × (k < n) × (f k ≡ found t)) → (k : ℕ) × (k < suc n) × (f k ≡ found t)
    go (inl e) g = (n, omega arith, e)
    go (inr e) g = let w = g e in (w.0, omega arith, w.2)

-- Sums -------------------------------------------------------------------------------------------------------

pub sum_same : (f g : ℕ → ℕ) (n : ℕ) → ((i : ℕ) → i < n → f i ≡ g i) → sum f n ≡ sum g n
unfolding sum
sum_same f g zero h = refl
sum_same f g (suc n) h = rw (h n (omega arith), sum_same f g n (λ i l. h i (omega arith)))

pub sum_le : (f g : ℕ → ℕ) → ((i : ℕ) → g i ≤ f i) → (n : ℕ) → sum g n ≤ sum f n
unfolding sum
sum_le f g h zero = omega arith
sum_le f g h (suc n) = omega (arith, h n, sum_le f g h n)

-- less at one place below n
pub sum_lt : (f g : ℕ → ℕ) → ((i : ℕ) → g i ≤ f i) → (e : ℕ) → g e < f e → (n : ℕ) → e < n → sum g n < sum f n
unfolding sum
sum_lt f g h e s zero l = absurd (omega arith)
sum_lt f g h e s (suc n) l = go (last e n l) (sum_lt f g h e s n)
  where
    go : (e ≡ n) ⊎ (e < n) → (e < n → sum g n < sum f n) → g n + sum g n < f n + sum f n
    go (inl q) r = let z : g n < f n = rw q at s in omega (arith, sum_le f g h n)
    go (inr m) r = omega (arith, h n, r m)

-- one more at one place
pub sum_one : (f g : ℕ → ℕ) (e : ℕ) → ((i : ℕ) → (i ≡ e → ⊥) → g i ≤ f i) → g e ≤ suc (f e) → (n : ℕ) → sum g n ≤ suc (sum f n)
unfolding sum
sum_one f g e h s zero = omega arith
sum_one f g e h s (suc n) = go (eqb n e) refl (sum_one f g e h s n)
  where
    off : (m : ℕ) → m ≤ e → sum g m ≤ sum f m
    off zero l = omega arith
    off (suc m) l = omega (arith, h m (λ q. omega arith), off m (omega arith))

    go : (b : Bool) → eqb n e ≡ b → sum g n ≤ suc (sum f n) → g n + sum g n ≤ suc (f n + sum f n)
    go true q w =
        let z : n ≡ e = eqb-true n e q in
        let r : g n ≤ suc (f n) = rw (← z) at s in
        omega (arith, off n (omega arith))
    go false q w = omega (arith, h n (eqb-false n e q))

-- Lists ------------------------------------------------------------------------------------------------------

pub nth_some : (l : List ℕ) (i c : ℕ) → nth l i ≡ found c → i < length l
unfolding nth
nth_some [] i c q = absurd (unfound c q)
nth_some (x ∷ l) zero c q = omega arith
nth_some (x ∷ l) (suc i) c q = omega (arith, nth_some l i c q)

pub nth_past : (l : List ℕ) (i : ℕ) → length l ≤ i → nth l i ≡ none
unfolding nth
nth_past [] i h = refl
nth_past (x ∷ l) zero h = absurd (omega arith)
nth_past (x ∷ l) (suc i) h = nth_past l i (omega arith)

pub nth_at : (l : List ℕ) (i : ℕ) → i < length l → nth l i ≡ found (get_or l i 0)
unfolding nth
nth_at [] i h = absurd (omega arith)
nth_at (x ∷ l) zero h = refl
nth_at (x ∷ l) (suc i) h = nth_at l i (omega arith)
