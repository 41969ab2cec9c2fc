-- Two's complement over the width: w bits and the numbers of the range stand for each other.
use Prim.Native.Nat.{ℕ, zero, suc, ◌-◌, ◌*◌, ◌^◌, ◌≤◌, ◌<◌}
use Rattle.std.specs.Prelude.{◌≡◌, refl, Bool, true, false, ◌&&◌, ltb, leb, ℤ, pos, neg_ℤ, ◌-ℤ◌}
use Rattle.std.proofs.Common.{sym, ◌∙◌, subst, pow-suc, arith, lt-ltb, le-ltb, ltb-true, ltb-false}
use Rattle.std.proofs.Math.Path.{ap}
use Rattle.std.proofs.Math.Nat.{one-le-pow}
use Rattle.std.proofs.Math.Dec.{leb-suc-suc}
use Rattle.std.proofs.Math.IntN.{negsuc}
use Rattle.std.specs.Int.Signed.{mag, lt_z, le_z}
use Rattle.word.specs.Word.{signed, bits_of, in_range}

pub half_pos : (w : ℕ) → 0 < 2 ^ (w - 1)
half_pos w = one-le-pow (w - 1) 2 (omega arith)

pub doubled : (w : ℕ) → 0 < w → 2 ^ w ≡ 2 ^ (w - 1) * 2
doubled zero l = absurd (omega arith)
doubled (suc h) l =
    let e : suc h - 1 ≡ h = omega arith in
    rw e (pow-suc 2 h)

-- the two ends of a range as one bound: mag z is n both for n and for -(n + 1)
and_true : (b : Bool) → b && true ≡ b
and_true true = refl
and_true false = refl

ends : (h : ℕ) (z : ℤ) → 0 < h → le_z (neg_ℤ (pos h)) z && lt_z z (pos h) ≡ ltb (mag z) h
ends zero z l = absurd (omega arith)
ends (suc h) (pos n) l = refl
ends (suc h) (negsuc n) l = and_true (leb n h) ∙ sym (leb-suc-suc n h)

pub one_bound : (w : ℕ) (z : ℤ) → in_range w z ≡ ltb (mag z) (2 ^ (w - 1))
unfolding in_range
one_bound w z = ends (2 ^ (w - 1)) z (half_pos w)

pub in_range_lem : (w : ℕ) (z : ℤ) → mag z < 2 ^ (w - 1) → in_range w z ≡ true
in_range_lem w z h = one_bound w z ∙ lt-ltb _ _ h

pub out_of_range : (w : ℕ) (z : ℤ) → 2 ^ (w - 1) ≤ mag z → in_range w z ≡ false
out_of_range w z h = one_bound w z ∙ le-ltb _ _ h

pub bound_in : (w : ℕ) (z : ℤ) → in_range w z ≡ true → mag z < 2 ^ (w - 1)
bound_in w z e = ltb-true _ _ (sym (one_bound w z) ∙ e)

pub bound_out : (w : ℕ) (z : ℤ) → in_range w z ≡ false → 2 ^ (w - 1) ≤ mag z
bound_out w z e = ltb-false _ _ (sym (one_bound w z) ∙ e)

-- what the bits of the lower and of the upper half stand for
less : (k x : ℕ) → x < k → pos x -ℤ pos k ≡ negsuc (k - suc x)
less zero x l = absurd (omega arith)
less (suc k) x l = rw (lt-ltb x (suc k) l)

pub signed_low : (w x : ℕ) → x < 2 ^ (w - 1) → signed w x ≡ pos x
unfolding signed
signed_low w x h = rw (lt-ltb x (2 ^ (w - 1)) h)

pub signed_high : (w x : ℕ) → 2 ^ (w - 1) ≤ x → x < 2 ^ w → signed w x ≡ negsuc (2 ^ w - suc x)
unfolding signed
signed_high w x h l = rw (le-ltb x (2 ^ (w - 1)) h) (less (2 ^ w) x l)

-- so a fact of both halves is one of every number that bits stand for
pub by_half : (P : ℤ → Type 0) (w x : ℕ) → x < 2 ^ w → (x < 2 ^ (w - 1) → P (pos x)) → (2 ^ (w - 1) ≤ x → P (negsuc (2 ^ w - suc x))) → P (signed w x)
by_half P w x l low high = go (ltb x (2 ^ (w - 1))) refl
  where
    go : (b : Bool) → ltb x (2 ^ (w - 1)) ≡ b → P (signed w x)
    go true e =
        let h : x < 2 ^ (w - 1) = ltb-true _ _ e in
        subst P (sym (signed_low w x h)) (low h)
    go false e =
        let h : 2 ^ (w - 1) ≤ x = ltb-false _ _ e in
        subst P (sym (signed_high w x h l)) (high h)

module _ (w : ℕ) (some : 0 < w) where
  pub mag_signed : (x : ℕ) → x < 2 ^ w → mag (signed w x) < 2 ^ (w - 1)
  mag_signed x l = by_half (λ z. mag z < 2 ^ (w - 1)) w x l (λ h. h) (λ h. omega (arith, doubled w some))

  pub read_written : (x : ℕ) → x < 2 ^ w → bits_of w (signed w x) ≡ x
  unfolding bits_of
  read_written x l = by_half (λ z. bits_of w z ≡ x) w x l (λ h. refl) (λ h. omega arith)

  pub written_fits : (z : ℤ) → mag z < 2 ^ (w - 1) → bits_of w z < 2 ^ w
  unfolding bits_of
  written_fits (pos n) h = omega (arith, doubled w some)
  written_fits (negsuc n) h = omega (arith, doubled w some)

  pub written_read : (z : ℤ) → mag z < 2 ^ (w - 1) → signed w (bits_of w z) ≡ z
  unfolding bits_of
  written_read (pos n) h = signed_low w n h
  written_read (negsuc n) h =
      let e : 2 ^ w - suc (2 ^ w - suc n) ≡ n = omega (arith, doubled w some) in
      signed_high w (2 ^ w - suc n) (omega (arith, doubled w some)) (omega (arith, doubled w some)) ∙ ap negsuc e
