-- The rules of Laws.antt hold for every width from 1 on.
use Prim.Native.Nat.{ℕ, zero, suc, min, max, ◌-◌, ◌/◌, ◌%◌, ◌^◌, ◌<◌}
use Rattle.std.proofs.Math.Path.{◌≡◌, ap}
use Rattle.std.specs.Prelude.{refl, Bool, true, false, ◌↔◌, ◌⊎◌, eqb, ℤ, pos, negsuc, nat_abs, ◌+ℤ◌, ◌-ℤ◌, ◌*ℤ◌, if◌then◌else◌}
use Rattle.std.proofs.Common.{sym, ◌∙◌, pow-suc, div-add-mod', arith}
use Rattle.std.proofs.Math.Logic.{⊎_elim}
use Rattle.std.proofs.Math.Nat.{mod-lt, div-le_self, mod-le}
use borrow.Author.Tests.{eq-eqb, ne_eqb, eqb-true}
use Rattle.std.specs.Int.Signed.{mag, quot_z, rem_z, mag_rem}
use Rattle.word.specs.Word.{Result, value, stop, add_u, sub_u, mul_u, quot_u, rem_u, signed, bits_of, in_range, narrow, add_s, sub_s, mul_s, division_s, quot_s, rem_s, bitwise, and_b, or_b, not_b, flag}
use Rattle.word.specs.TwosComplement.{half_pos, doubled, in_range_lem, out_of_range, bound_in, bound_out, signed_low, by_half, mag_signed, read_written, written_fits, written_read}
use Rattle.word.specs.Division.{dividend, smaller, sign, quotient_in, quotient_out}
use Rattle.word.specs.Laws.{Complement, Holds, Held, Exact, LeastByMinusOne, Stops, Divided, Unsigned, Rules}

-- what the two choices of a result come to
chosen : (P : Result → Type 0) (b : Bool) (r s : Result) → (b ≡ true → P r) → (b ≡ false → P s) → P (if b then r else s)
chosen P true r s f g = f refl
chosen P false r s f g = g refl

value_not_stop : {A : Type 0} (v n : ℕ) → value v ≡ stop n → A
value_not_stop v n e =
    let z : ◌≡◌ {A = ℕ} 0 1 = cc in
    absurd (omega arith)

same_stop : (m n : ℕ) → stop m ≡ stop n → m ≡ n
same_stop m n e = cc

is_fourteen : (b : Bool) (r : Result) → (r ≡ stop 14 → ⊥) → (if b then stop 14 else r) ≡ stop 14 → b ≡ true
is_fourteen true r n e = refl
is_fourteen false r n e = absurd (n e)

is_fifteen : (b : Bool) (r : Result) → (if b then stop 14 else r) ≡ stop 15 → (b ≡ false) × (r ≡ stop 15)
is_fifteen true r e =
    let z : ◌≡◌ {A = ℕ} 14 15 = same_stop 14 15 e in
    absurd (omega arith)
is_fifteen false r e = (refl, e)

is_out : (b : Bool) (v n : ℕ) → (if b then value v else stop 15) ≡ stop n → (b ≡ false) × (n ≡ 15)
is_out true v n e = value_not_stop v n e
is_out false v n e = (refl, same_stop n 15 (sym e))

is_in : (b : Bool) (u v : ℕ) → (if b then value u else stop 15) ≡ value v → (b ≡ true) × (u ≡ v)
is_in true u v e = (refl, cc)
is_in false u v e = value_not_stop v 15 (sym e)

bitwise_fits : (f : ℕ → ℕ → ℕ) → ((a b : ℕ) → a < 2 → b < 2 → f a b < 2) → (k x y : ℕ) → bitwise f k x y < 2 ^ k
unfolding bitwise
bitwise_fits f h zero x y = omega arith
bitwise_fits f h (suc k) x y =
    let i : bitwise f k (x / 2) (y / 2) < 2 ^ k = bitwise_fits f h k (x / 2) (y / 2) in
    let b : f (x % 2) (y % 2) < 2 = h (x % 2) (y % 2) (mod-lt x (omega arith)) (mod-lt y (omega arith)) in
    omega (arith, pow-suc 2 k)

abbrev quot_of : (w x y : ℕ) → ℤ
quot_of w x y = quot_z (signed w x) (signed w y)

abbrev rem_of : (w x y : ℕ) → ℤ
rem_of w x y = rem_z (signed w x) (signed w y)

module _ (w : ℕ) (some : 0 < w) where
  whole_pos : 0 < 2 ^ w
  whole_pos = omega (arith, half_pos w, doubled w some)

  complements : Complement w
  complements =
      record {
        read_in_range = λ x l. in_range_lem w (signed w x) (mag_signed w some x l);
        read_and_written = λ x l. read_written w some x l;
        written_in_bits = λ z e. written_fits w some z (bound_in w z e);
        written_and_read = λ z e. written_read w some z (bound_in w z e);
      }

  flag_fits : (b : Bool) → flag b < 2 ^ w
  flag_fits true = omega (arith, half_pos w, doubled w some)
  flag_fits false = whole_pos

  narrow_holds : (z : ℤ) → Holds w (narrow w z)
  unfolding narrow
  narrow_holds z = chosen (Holds w) (in_range w z) _ _ (λ e. written_fits w some z (bound_in w z e)) (λ e. tt)

  exact : (z : ℤ) → Exact w z (narrow w z)
  unfolding narrow
  exact z =
      record {
        stands_for = λ v e. ap (signed w) (sym (is_in (in_range w z) _ v e).1) ∙ written_read w some z (bound_in w z (is_in (in_range w z) _ v e).0);
        stops = (λ e. (is_out (in_range w z) _ 15 e).0, λ e. rw e);
        no_other = λ n e. (is_out (in_range w z) _ n e).1;
      }

  -- the signed division of two cells
  module _ (x y : ℕ) (lx : x < 2 ^ w) (ly : y < 2 ^ w) where
    in_or_least : (mag (quot_of w x y) < 2 ^ (w - 1)) ⊎ LeastByMinusOne w x y
    in_or_least = quotient_in (2 ^ (w - 1)) (signed w x) (signed w y) (mag_signed w some x lx)

    rem_bound : mag (rem_of w x y) < 2 ^ (w - 1)
    rem_bound = omega (arith, mag_rem (signed w x) (signed w y), mag_signed w some x lx)

    nonzero : (y ≡ 0 → ⊥) → 0 < nat_abs (signed w y)
    nonzero n = by_half (λ z. 0 < nat_abs z) w y ly (λ h. omega arith) (λ h. omega arith)

    least_nonzero : LeastByMinusOne w x y → y ≡ 0 → ⊥
    least_nonzero l e =
        let z : pos 0 ≡ negsuc 0 = sym (ap (signed w) e ∙ signed_low w 0 (half_pos w)) ∙ l.1 in
        let c : ◌≡◌ {A = ℕ} 0 1 = cc in
        omega arith

    stops_at : (f : ℤ → ℤ → ℤ) → Stops w x y (division_s f w x y)
    unfolding division_s
    stops_at f =
        record {
          zero_divisor = (
            λ e. eqb-true y 0 (is_fourteen (eqb y 0) _ (λ g. let z : ◌≡◌ {A = ℕ} 14 15 = (is_out (in_range w (quot_of w x y)) _ 14 g).1 in omega arith) e),
            λ e. rw (eq-eqb y 0 e),
          );
          out_of_range = (
            λ e. ⊎_elim (λ h. absurd (omega (arith, bound_out w (quot_of w x y) (is_out (in_range w (quot_of w x y)) _ 15 (is_fifteen (eqb y 0) _ e).1).0))) (λ l. l) in_or_least,
            λ l. rw (ne_eqb y 0 (least_nonzero l), out_of_range w _ (quotient_out (2 ^ (w - 1)) _ _ l.0 l.1)),
          );
        }

    given_by : (f : ℤ → ℤ → ℤ) → (y ≡ 0 → ⊥) → mag (quot_of w x y) < 2 ^ (w - 1) → division_s f w x y ≡ value (bits_of w (f (signed w x) (signed w y)))
    unfolding division_s
    given_by f n h = rw (ne_eqb y 0 n, in_range_lem w _ h)

    divides : (y ≡ 0 → ⊥) → mag (quot_of w x y) < 2 ^ (w - 1) → Divided w x y
    unfolding quot_s rem_s
    divides n h =
        let q : signed w (bits_of w (quot_of w x y)) ≡ quot_of w x y = written_read w some _ h in
        let r : signed w (bits_of w (rem_of w x y)) ≡ rem_of w x y = written_read w some _ rem_bound in
        record {
          quotient = bits_of w (quot_of w x y);
          remainder = bits_of w (rem_of w x y);
          gives_quotient = given_by quot_z n h;
          gives_remainder = given_by rem_z n h;
          whole = rw (q, r) (dividend (signed w x) (signed w y));
          small = rw r (smaller (signed w x) (signed w y) (nonzero n));
          like_dividend = rw r (sign (signed w x) (signed w y));
        }

    division_holds : (f : ℤ → ℤ → ℤ) → (mag (quot_of w x y) < 2 ^ (w - 1) → mag (f (signed w x) (signed w y)) < 2 ^ (w - 1)) → Holds w (division_s f w x y)
    unfolding division_s
    division_holds f keeps =
        chosen (Holds w) (eqb y 0) _ _ (λ e. tt)
        (λ e. chosen (Holds w) (in_range w (quot_of w x y)) _ _ (λ i. written_fits w some _ (keeps (bound_in w _ i))) (λ i. tt))

    holds : Held w x y
    unfolding add_u sub_u mul_u quot_u rem_u add_s sub_s mul_s quot_s rem_s and_b or_b not_b
    holds =
        record {
          sum = mod-lt _ whole_pos;
          difference = mod-lt _ whole_pos;
          product = mod-lt _ whole_pos;
          quotient = chosen (Holds w) (eqb y 0) _ _ (λ e. tt) (λ e. omega (arith, div-le_self x y));
          remainder = chosen (Holds w) (eqb y 0) _ _ (λ e. tt) (λ e. omega (arith, mod-le x y));
          signed_sum = narrow_holds _;
          signed_difference = narrow_holds _;
          signed_product = narrow_holds _;
          signed_quotient = division_holds quot_z (λ h. h);
          signed_remainder = division_holds rem_z (λ h. rem_bound);
          bitwise_and = bitwise_fits min (λ a b h k. omega arith) w x y;
          bitwise_or = bitwise_fits max (λ a b h k. omega arith) w x y;
          bitwise_not = omega (arith, whole_pos);
          comparison = flag_fits;
        }

unsigned_stop : (y v : ℕ) → ((if eqb y 0 then stop 14 else value v) ≡ stop 14) ↔ (y ≡ 0)
unsigned_stop y v =
    (λ e. eqb-true y 0 (is_fourteen (eqb y 0) _ (λ f. value_not_stop v 14 f) e), λ e. rw (eq-eqb y 0 e))

unsigned_divides : (x y : ℕ) → Unsigned x y
unfolding quot_u rem_u
unsigned_divides x y =
    record {
      quotient_stops = unsigned_stop y (x / y);
      remainder_stops = unsigned_stop y (x % y);
      divided = λ n. (rw (ne_eqb y 0 n), rw (ne_eqb y 0 n), sym (div-add-mod' x y), mod-lt x (omega arith));
    }

pub rules : (w : ℕ) → 0 < w → Rules w
unfolding add_s sub_s mul_s quot_s rem_s
rules w some =
    record {
      complement = complements w some;
      held = holds w some;
      sum = λ x y. exact w some (signed w x +ℤ signed w y);
      difference = λ x y. exact w some (signed w x -ℤ signed w y);
      product = λ x y. exact w some (signed w x *ℤ signed w y);
      quotient = λ x y lx ly. stops_at w some x y lx ly quot_z;
      remainder = λ x y lx ly. stops_at w some x y lx ly rem_z;
      divided = λ x y lx ly n m. ⊎_elim (divides w some x y lx ly n) (λ l. absurd (m l)) (in_or_least w some x y lx ly);
      unsigned = unsigned_divides;
    }
