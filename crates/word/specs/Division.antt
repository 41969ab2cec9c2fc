-- The quotient toward zero and its remainder, on the integers.
use Rattle.std.specs.Prelude.{ℕ, zero, suc, ◌-◌, ◌*◌, ◌/◌, ◌%◌, ◌≤◌, ◌<◌, ◌≡◌, refl, ◌⊎◌, ℤ, pos, negsuc, neg_ℤ, nat_abs, ◌+ℤ◌, ◌*ℤ◌}
use Rattle.std.proofs.Common.{sym, ap, ◌∙◌, inl, inr, div-add-mod', mod-lt, zero-mul, div-le_self, div-one, arith}
use Rattle.std.proofs.Math.Nat.{div-lt_self}
use Rattle.std.proofs.Math.Decide.{ℕ_discrete}
use Rattle.std.proofs.Math.IntN.{neg_ℤ-+ℤ}
use Rattle.std.specs.Int.Signed.{mag, non_neg, quot_z, rem_z}

minus : ℕ → ℤ
minus n = neg_ℤ (pos n)

minus_times_pos : (q b : ℕ) → minus q *ℤ pos b ≡ minus (q * b)
unfolding minus
minus_times_pos zero b = rw (zero-mul b)
minus_times_pos (suc q) b = refl

minus_times_neg : (q b : ℕ) → minus q *ℤ negsuc b ≡ pos (q * suc b)
unfolding minus
minus_times_neg zero b = rw (zero-mul (suc b))
minus_times_neg (suc q) b = refl

size_minus : (n : ℕ) → nat_abs (minus n) ≡ n
unfolding minus
size_minus zero = refl
size_minus (suc n) = refl

-- dividend = quotient * divisor + remainder
pub dividend : (p d : ℤ) → p ≡ quot_z p d *ℤ d +ℤ rem_z p d
unfolding minus
dividend (pos a) (pos b) = ap pos (sym (div-add-mod' a b))
dividend (pos a) (negsuc b) =
    ap pos (sym (div-add-mod' a (suc b))) ∙ ap (λ (z : ℤ). z +ℤ pos (a % suc b)) (sym (minus_times_neg (a / suc b) b))
dividend (negsuc a) (pos b) =
    ap minus (sym (div-add-mod' (suc a) b)) ∙ neg_ℤ-+ℤ (pos (suc a / b * b)) (pos (suc a % b))
    ∙ ap (λ (z : ℤ). z +ℤ minus (suc a % b)) (sym (minus_times_pos (suc a / b) b))
dividend (negsuc a) (negsuc b) =
    ap minus (sym (div-add-mod' (suc a) (suc b))) ∙ neg_ℤ-+ℤ (pos (suc a / suc b * suc b)) (pos (suc a % suc b))

-- the remainder is smaller than the divisor
pub smaller : (p d : ℤ) → 0 < nat_abs d → nat_abs (rem_z p d) < nat_abs d
unfolding minus
smaller (pos a) d h = mod-lt a h
smaller (negsuc a) d h = rw (size_minus (suc a % nat_abs d)) (mod-lt (suc a) h)

-- and is 0 or has the dividend's sign
minus_sign : (n : ℕ) (a : ℕ) → (minus n ≡ pos 0) ⊎ (non_neg (minus n) ≡ non_neg (negsuc a))
unfolding minus
minus_sign zero a = inl refl
minus_sign (suc n) a = inr refl

pub sign : (p d : ℤ) → (rem_z p d ≡ pos 0) ⊎ (non_neg (rem_z p d) ≡ non_neg p)
unfolding minus
sign (pos a) d = inr refl
sign (negsuc a) d = minus_sign (suc a % nat_abs d) a

-- of a range of numbers the quotients stay in it, but for that of its least number by -1
pub mag_minus : (n : ℕ) → mag (neg_ℤ (pos n)) ≤ n - 1
mag_minus zero = omega arith
mag_minus (suc n) = omega arith

pub quotient_in : (h : ℕ) (p d : ℤ) → mag p < h → (mag (quot_z p d) < h) ⊎ ((p ≡ neg_ℤ (pos h)) × (d ≡ negsuc 0))
unfolding minus
quotient_in zero p d l = absurd (omega arith)
quotient_in (suc h) (pos a) (pos b) l = inl (omega (arith, div-le_self a b))
quotient_in (suc h) (pos a) (negsuc b) l = inl (omega (arith, mag_minus (a / suc b), div-le_self a (suc b)))
quotient_in (suc h) (negsuc a) (pos b) l = inl (omega (arith, mag_minus (suc a / b), div-le_self (suc a) b))
quotient_in (suc h) (negsuc a) (negsuc zero) l = go (ℕ_discrete a h)
  where
    go : Dec (a ≡ h) → (mag (quot_z (negsuc a) (negsuc 0)) < suc h) ⊎ ((negsuc a ≡ negsuc h) × (negsuc 0 ≡ negsuc 0))
    go (yes e) = inr (ap negsuc e, refl)
    go (no n) = inl (omega (arith, div-one (suc a)))
quotient_in (suc h) (negsuc a) (negsuc (suc b)) l =
    inl (omega (arith, div-lt_self {n = suc a} {k = suc (suc b)} (omega arith) (omega arith)))

least : (h : ℕ) → h ≤ mag (quot_z (neg_ℤ (pos h)) (negsuc 0))
least zero = omega arith
least (suc h) = omega (arith, div-one (suc h))

pub quotient_out : (h : ℕ) (p d : ℤ) → p ≡ neg_ℤ (pos h) → d ≡ negsuc 0 → h ≤ mag (quot_z p d)
quotient_out h p d e f = rw (e, f) (least h)
