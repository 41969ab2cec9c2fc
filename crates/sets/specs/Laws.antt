-- What is in a set, for each way that a set is made; what a set is by what is in it; and its least number.
use Rattle.std.specs.Prelude.{ℕ, zero, suc, min, max, ◌+◌, ◌-◌, ◌*◌, ◌/◌, ◌%◌, ◌^◌, ◌≤◌, ◌<◌, ◌≡◌, refl, Bool, true, false, not, ◌&&◌, ◌||◌, eqb, ltb, if◌then◌else◌}
use Rattle.std.proofs.Common.{sym, ap, ◌∙◌, pow-suc, mod-lt, zero-lt-suc, lt_of_lt_of_le, lt_of_le_of_lt, add_comm, one-add, arith, lt-ltb, eq-eqb, ne_eqb, eqb-true, ltb-true, ltb-false, pow_pos, pow_mono, shr-shr}
use Rattle.std.proofs.Math.Nat.{zero-div, div-eq_of_lt}
use Rattle.std.proofs.lemmas.Bool.{eqb-false}
use Rattle.std.proofs.Math.Dec.{eqb-zero-suc, eqb-suc-zero, eqb-suc-suc, leb-suc-zero, leb-suc-suc}
use Rattle.std.proofs.Math.Arith.{digits_mod}
use Rattle.std.proofs.lemmas.Nat.{mod-pow-add, and_shr, or_shr, and_le_l, and_mask}
use Rattle.std.specs.Int.Bits.{bit_and, bit_or, and_step, or_step}
use Rattle.std.specs.Int.Count.{count_trailing_zeros, under}
use Rattle.sets.specs.Sets.{has, single, join, minus, with, without, below, least_of}

-- a bit is 0 or 1
bit_cases : (P : ℕ → Type 0) → P 0 → P 1 → (n : ℕ) → n < 2 → P n
bit_cases P p q zero h = p
bit_cases P p q (suc zero) h = q
bit_cases P p q (suc (suc n)) h = absurd (omega arith)

low_bit : (n : ℕ) → n % 2 < 2
low_bit n = mod-lt n (zero-lt-suc 1)

-- the lowest bit, and the others as those of the half
has_first : (s : ℕ) → has s 0 ≡ eqb (s % 2) 1
unfolding has
has_first s = let e : s / 1 ≡ s = omega arith in rw e

pub has_suc : (s i : ℕ) → has s (suc i) ≡ has (s / 2) i
unfolding has
has_suc s i = ap (λ (n : ℕ). eqb (n % 2) 1) (ap (λ (k : ℕ). s / 2 ^ k) (sym (one-add i)) ∙ sym (shr-shr s 1 i))

has_odd : (s b : ℕ) → s % 2 ≡ b → has s 0 ≡ eqb b 1
has_odd s b e = has_first s ∙ ap (λ (n : ℕ). eqb n 1) e

has_half : (s h i : ℕ) → s / 2 ≡ h → has s (suc i) ≡ has h i
has_half s h i e = has_suc s i ∙ ap (λ (n : ℕ). has n i) e

pub has_zero : (i : ℕ) → has 0 i ≡ false
unfolding has
has_zero i = ap (λ (n : ℕ). eqb (n % 2) 1) (zero-div (2 ^ i))

-- both, bit by bit
or_bit : (m n : ℕ) → m < 2 → n < 2 → eqb (max m n) 1 ≡ eqb m 1 || eqb n 1
or_bit m n h l =
    bit_cases (λ x. eqb (max x n) 1 ≡ eqb x 1 || eqb n 1) (bit_cases (λ y. eqb (max 0 y) 1 ≡ eqb y 1) refl refl n l)
    (bit_cases (λ y. eqb (max 1 y) 1 ≡ true) refl refl n l) m h

and_bit : (m n : ℕ) → m < 2 → n < 2 → eqb (min m n) 1 ≡ eqb m 1 && eqb n 1
and_bit m n h l =
    bit_cases (λ x. eqb (min x n) 1 ≡ eqb x 1 && eqb n 1) (bit_cases (λ y. eqb (min 0 y) 1 ≡ false) refl refl n l)
    (bit_cases (λ y. eqb (min 1 y) 1 ≡ eqb y 1) refl refl n l) m h

or_low : (a b : ℕ) → bit_or a b % 2 ≡ max (a % 2) (b % 2)
or_low a b =
    ap (λ (n : ℕ). n % 2) (or_step a b) ∙ digits_mod (bit_or (a / 2) (b / 2)) (omega (arith, low_bit a, low_bit b))

and_low : (a b : ℕ) → bit_and a b % 2 ≡ min (a % 2) (b % 2)
and_low a b =
    ap (λ (n : ℕ). n % 2) (and_step a b) ∙ digits_mod (bit_and (a / 2) (b / 2)) (omega (arith, low_bit a, low_bit b))

pub has_join : (a b i : ℕ) → has (join a b) i ≡ has a i || has b i
unfolding has join
has_join a b i =
    ap (λ (n : ℕ). eqb (n % 2) 1) (or_shr a b i) ∙ ap (λ (n : ℕ). eqb n 1) (or_low (a / 2 ^ i) (b / 2 ^ i))
    ∙ or_bit (a / 2 ^ i % 2) (b / 2 ^ i % 2) (low_bit (a / 2 ^ i)) (low_bit (b / 2 ^ i))

has_and : (a b i : ℕ) → has (bit_and a b) i ≡ has a i && has b i
unfolding has
has_and a b i =
    ap (λ (n : ℕ). eqb (n % 2) 1) (and_shr a b i) ∙ ap (λ (n : ℕ). eqb n 1) (and_low (a / 2 ^ i) (b / 2 ^ i))
    ∙ and_bit (a / 2 ^ i % 2) (b / 2 ^ i % 2) (low_bit (a / 2 ^ i)) (low_bit (b / 2 ^ i))

-- what is not in a set of k bits
not_bit : (n : ℕ) → n < 2 → eqb (1 - n) 1 ≡ not (eqb n 1)
not_bit n h = bit_cases (λ x. eqb (1 - x) 1 ≡ not (eqb x 1)) refl refl n h

rest_low : (p b : ℕ) → b < p * 2 → (p * 2 - 1 - b) % 2 ≡ 1 - b % 2
rest_low p b h = omega arith

rest_half : (p b : ℕ) → b < p * 2 → (p * 2 - 1 - b) / 2 ≡ p - 1 - b / 2
rest_half p b h = omega arith

half_fits : (k b : ℕ) → b < 2 ^ suc k → b / 2 < 2 ^ k
half_fits k b h = omega (arith, rw (pow-suc 2 k) at h)

has_rest : (k b i : ℕ) → b < 2 ^ k → i < k → has (2 ^ k - 1 - b) i ≡ not (has b i)
has_rest zero b i h l = absurd (omega arith)
has_rest (suc k) b zero h l =
    has_odd (2 ^ suc k - 1 - b) (1 - b % 2) (rw (pow-suc 2 k) (rest_low (2 ^ k) b (rw (pow-suc 2 k) at h)))
    ∙ not_bit (b % 2) (low_bit b) ∙ ap not (sym (has_first b))
has_rest (suc k) b (suc i) h l =
    has_half (2 ^ suc k - 1 - b) (2 ^ k - 1 - b / 2) i (rw (pow-suc 2 k) (rest_half (2 ^ k) b (rw (pow-suc 2 k) at h)))
    ∙ has_rest k (b / 2) i (half_fits k b h) (omega arith) ∙ ap not (sym (has_suc b i))

-- powers of two have one bit, and one less than a power those below
has_power : (j i : ℕ) → has (2 ^ j) i ≡ eqb i j
has_power zero zero = has_first 1
has_power zero (suc i) = has_suc 1 i ∙ has_zero i ∙ sym (eqb-suc-zero i)
has_power (suc j) zero = has_odd (2 ^ suc j) 0 (rw (pow-suc 2 j) (omega arith)) ∙ sym (eqb-zero-suc j)
has_power (suc j) (suc i) =
    has_half (2 ^ suc j) (2 ^ j) i (rw (pow-suc 2 j) (omega arith)) ∙ has_power j i ∙ sym (eqb-suc-suc i j)

has_ones : (n i : ℕ) → has (2 ^ n - 1) i ≡ ltb i n
has_ones zero i = has_zero i ∙ sym (leb-suc-zero i)
has_ones (suc n) zero =
    has_odd (2 ^ suc n - 1) 1 (rw (pow-suc 2 n) (omega (arith, pow_pos n))) ∙ sym (lt-ltb 0 (suc n) (omega arith))
has_ones (suc n) (suc i) =
    has_half (2 ^ suc n - 1) (2 ^ n - 1) i (rw (pow-suc 2 n) (omega arith)) ∙ has_ones n i ∙ sym (leb-suc-suc (suc i) n)

pub has_single : (j i : ℕ) → i < 32 → has (single j) i ≡ eqb i j
unfolding single
has_single j i l = go (ltb j 32) refl
  where
    go : (z : Bool) → ltb j 32 ≡ z → has (if z then 2 ^ j else 0) i ≡ eqb i j
    go true e = has_power j i
    go false e = has_zero i ∙ sym (ne_eqb i j (λ q. omega (arith, ltb-false)))

pub has_full : (i : ℕ) → i < 32 → has 4294967295 i ≡ true
has_full i l = has_ones 32 i ∙ lt-ltb i 32 l

-- of a number that is no set the lowest 32 bits are one
and_true : (x : Bool) → x && true ≡ x
and_true true = refl
and_true false = refl

pub has_mod : (s i : ℕ) → i < 32 → has (s % 4294967296) i ≡ has s i
has_mod s i l =
    ap (λ (n : ℕ). has n i) (sym (and_mask s 32)) ∙ has_and s 4294967295 i ∙ ap (λ (z : Bool). has s i && z) (has_full i l)
    ∙ and_true (has s i)

pub has_minus : (a b i : ℕ) → i < 32 → has (minus a b) i ≡ has a i && not (has b i)
unfolding minus
has_minus a b i l =
    has_and a (4294967295 - b % 4294967296) i
    ∙ ap (λ (z : Bool). has a i && z) (has_rest 32 (b % 4294967296) i (mod-lt b (zero-lt-suc 4294967295)) l ∙ ap not (has_mod b i l))

pub has_below : (n i : ℕ) → i < 32 → has (below n) i ≡ ltb i n
unfolding below
has_below n i l = go (ltb n 32) refl
  where
    go : (z : Bool) → ltb n 32 ≡ z → has (if z then 2 ^ n - 1 else 4294967295) i ≡ ltb i n
    go true e = has_ones n i
    go false e = has_full i l ∙ sym (lt-ltb i n (omega (arith, ltb-false)))

-- what is left of a set of 32 bits is one
pub minus_fits : (a b : ℕ) → a < 4294967296 → minus a b < 4294967296
unfolding minus
minus_fits a b h = lt_of_le_of_lt (and_le_l a (4294967295 - b % 4294967296)) h

-- one number more, or less
or_test : (x z : Bool) → x || z ≡ (if z then true else x)
or_test true true = refl
or_test true false = refl
or_test false true = refl
or_test false false = refl

and_test : (x z : Bool) → x && not z ≡ (if z then false else x)
and_test true true = refl
and_test true false = refl
and_test false true = refl
and_test false false = refl

pub has_with : (s j i : ℕ) → i < 32 → has (with s j) i ≡ (if eqb i j then true else has s i)
unfolding with
has_with s j i l =
    has_join s (single j) i ∙ ap (λ (z : Bool). has s i || z) (has_single j i l) ∙ or_test (has s i) (eqb i j)

pub has_without : (s j i : ℕ) → i < 32 → has (without s j) i ≡ (if eqb i j then false else has s i)
unfolding without
has_without s j i l =
    has_minus s (single j) i l ∙ ap (λ (z : Bool). has s i && not z) (has_single j i l) ∙ and_test (has s i) (eqb i j)

pub has_past : (s i : ℕ) → s < 4294967296 → 32 ≤ i → has s i ≡ false
unfolding has
has_past s i h l = ap (λ (n : ℕ). eqb (n % 2) 1) (div-eq_of_lt {n = s} {m = 2 ^ i} (lt_of_lt_of_le h (pow_mono {i = 32} {j = i} l)))

-- a set is known by what is in it
same_bit : (m n : ℕ) → m < 2 → n < 2 → eqb m 1 ≡ eqb n 1 → m ≡ n
same_bit m n h l e = go (eqb n 1) refl
  where
    go : (z : Bool) → eqb n 1 ≡ z → m ≡ n
    go true q = eqb-true m 1 (e ∙ q) ∙ sym (eqb-true n 1 q)
    go false q =
        let f : m ≡ 1 → ⊥ = eqb-false m 1 (e ∙ q) in
        let g : n ≡ 1 → ⊥ = eqb-false n 1 q in
        omega arith

same_of : (k a b : ℕ) → a < 2 ^ k → b < 2 ^ k → ((i : ℕ) → i < k → has a i ≡ has b i) → a ≡ b
same_of zero a b h l f = omega arith
same_of (suc k) a b h l f =
    let low : a % 2 ≡ b % 2 = same_bit (a % 2) (b % 2) (low_bit a) (low_bit b) (sym (has_first a) ∙ f 0 (omega arith) ∙ has_first b) in
    let high : a / 2 ≡ b / 2 = same_of k (a / 2) (b / 2) (half_fits k a h) (half_fits k b l) (λ i s. sym (has_suc a i) ∙ f (suc i) (omega arith) ∙ has_suc b i) in
    omega arith

pub same_sets : (a b : ℕ) → a < 4294967296 → b < 4294967296 → ((i : ℕ) → i < 32 → has a i ≡ has b i) → a ≡ b
same_sets a b h l f = same_of 32 a b h l f

pub is_empty : (s : ℕ) → ((i : ℕ) → i < 32 → has s i ≡ false) → s % 4294967296 ≡ 0
is_empty s f =
    same_sets (s % 4294967296) 0 (mod-lt s (zero-lt-suc 4294967295)) (omega arith) (λ i l. has_mod s i l ∙ f i l ∙ sym (has_zero i))

pub is_full : (s : ℕ) → ((i : ℕ) → i < 32 → has s i ≡ true) → s % 4294967296 ≡ 4294967295
is_full s f =
    same_sets (s % 4294967296) 4294967295 (mod-lt s (zero-lt-suc 4294967295)) (omega arith) (λ i l. has_mod s i l ∙ f i l ∙ sym (has_full i l))

differ : true ≡ false → ⊥
differ e = eqb-false 0 0 e refl

pub not_empty : (s i : ℕ) → i < 32 → has s i ≡ true → s % 4294967296 ≡ 0 → ⊥
not_empty s i l e z = differ (sym e ∙ sym (has_mod s i l) ∙ ap (λ (n : ℕ). has n i) z ∙ has_zero i)

pub not_full : (s i : ℕ) → i < 32 → has s i ≡ false → s % 4294967296 ≡ 4294967295 → ⊥
not_full s i l e z = differ (sym (has_full i l) ∙ ap (λ (n : ℕ). has n i) (sym z) ∙ has_mod s i l ∙ e)

-- the least number of a set: nothing below it is in it, and it is in it
none_step : (s t d i : ℕ) → s % 2 ≡ d → ((j : ℕ) → j < t → has (s / 2) j ≡ false) → i < under d t → has s i ≡ false
none_step s t zero zero e f l = has_odd s 0 e
none_step s t zero (suc i) e f l = has_suc s i ∙ f i (omega arith)
none_step s t (suc d) i e f l = absurd (omega arith)

none_before : (k s i : ℕ) → i < count_trailing_zeros k s → has s i ≡ false
unfolding count_trailing_zeros
none_before zero s i h = absurd (omega arith)
none_before (suc k) s i h = none_step s (count_trailing_zeros k (s / 2)) (s % 2) i refl (λ j l. none_before k (s / 2) j l) h

pub least_first : (s i : ℕ) → i < least_of s → has s i ≡ false
unfolding least_of
least_first s i h = none_before 32 s i h

hit_step : (k s t d : ℕ) → s % 2 ≡ d → d < 2 → (t < k → has (s / 2) t ≡ true) → under d t < suc k → has s (under d t) ≡ true
hit_step k s t zero e l f h = has_suc s t ∙ f (omega arith)
hit_step k s t (suc zero) e l f h = has_odd s 1 e
hit_step k s t (suc (suc d)) e l f h = absurd (omega arith)

least_hit : (k s : ℕ) → count_trailing_zeros k s < k → has s (count_trailing_zeros k s) ≡ true
unfolding count_trailing_zeros
least_hit zero s h = absurd (omega arith)
least_hit (suc k) s h = hit_step k s (count_trailing_zeros k (s / 2)) (s % 2) refl (low_bit s) (λ l. least_hit k (s / 2) l) h

pub least_in_lem : (s : ℕ) → (s % 4294967296 ≡ 0 → ⊥) → (least_of s < 32) × (has s (least_of s) ≡ true)
unfolding least_of
least_in_lem s f = go (ltb (count_trailing_zeros 32 s) 32) refl
  where
    go : (z : Bool) → ltb (count_trailing_zeros 32 s) 32 ≡ z → (count_trailing_zeros 32 s < 32) × (has s (count_trailing_zeros 32 s) ≡ true)
    go true e = (ltb-true (count_trailing_zeros 32 s) 32 e, least_hit 32 s (ltb-true (count_trailing_zeros 32 s) 32 e))
    go false e = absurd (f (is_empty s (λ i l. none_before 32 s i (omega (arith, ltb-false (count_trailing_zeros 32 s) 32 e)))))

-- a set without its least number is less, as a number
pub least_less : (s : ℕ) → (s % 4294967296 ≡ 0 → ⊥) → without s (least_of s) < s
unfolding without minus
least_less s f =
    let i : ℕ = least_of s in
    let l : without s i ≤ s = and_le_l s (4294967295 - single i % 4294967296) in
    let gone : has (without s i) i ≡ false = has_without s i i (least_in_lem s f).0 ∙ rw (eq-eqb i i refl) in
    let n : without s i ≡ s → ⊥ = λ e. differ (sym (least_in_lem s f).1 ∙ ap (λ t. has t i) (sym e) ∙ gone) in
    omega arith

-- the lower bits of a set, with one bit more
weighed : (b p : ℕ) → b < 2 → b * p ≡ (if eqb b 1 then p else 0)
weighed b p h = bit_cases (λ x. x * p ≡ (if eqb x 1 then p else 0)) (omega arith) (omega arith) b h

pub low_next : (s n : ℕ) → s % 2 ^ suc n ≡ s % 2 ^ n + (if has s n then 2 ^ n else 0)
unfolding has
low_next s n =
    ap (λ (k : ℕ). s % 2 ^ k) (sym (one-add n)) ∙ mod-pow-add s 1 n ∙ add_comm (s / 2 ^ n % 2 * 2 ^ n) (s % 2 ^ n)
    ∙ ap (λ (w : ℕ). s % 2 ^ n + w) (weighed (s / 2 ^ n % 2) (2 ^ n) (low_bit (s / 2 ^ n)))
