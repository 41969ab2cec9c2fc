-- Laws of job lines, as the code's loops and returns have them. Assumes nothing.
use Prim.Native.Nat.{ℕ, zero, suc, ◌+◌, ◌-◌, ◌*◌, ◌^◌, ◌<◌}
use mathlib.Core.Path.{◌≡◌, refl, sym, ap, ◌∙◌}
use mathlib.Core.Bool.{true}
use mathlib.Core.List.{List, [], ◌∷◌, ◌++◌, append_assoc, append-nil}
use native.Mathlib.Omega.{arith}
use native.Mathlib.Numerals.{add-one}
use native.Mathlib.Nat.{pow-suc}
use borrow.Author.Tests.{ltb-true}
use lib.Dec.{ltb}
use lib.ListN.{length, get_or, set, take}
use lib.Seq.{take-suc-set}
use Rattle.std.proofs.Common.{map}
use Rattle.std.proofs.lemmas.List.{map-append}
use Rattle.std.specs.Prelude.{Option, None, Some}
use Rattle.laws.specs.Choice.{and_left, and_right}
use Rattle.hexadecimal.specs.Hex.{digit_value, digits, value, number_at}
use Rattle.hexadecimal.specs.Laws.{Reads, number_reads}
use Rattle.program.specs.JobLines.{before, numbers_from}

-- a number of n digits is below 16^n
value_small : (bs : List ℕ) (at n : ℕ) → digits bs at n ≡ true → value bs at n < 16 ^ n
unfolding digits value
value_small bs at zero e = omega arith
value_small bs at (suc n) e =
    let p : 16 ^ suc n ≡ 16 ^ n * 16 = pow-suc 16 n in
    let b : digit_value (get_or bs (at + n) 0) < 16 = ltb-true _ 16 (and_right (digits bs at n) (ltb (digit_value (get_or bs (at + n) 0)) 16) e) in
    let r : value bs at n < 16 ^ n = value_small bs at n (and_left (digits bs at n) (ltb (digit_value (get_or bs (at + n) 0)) 16) e) in
    rw p (omega arith)

pub number_small : (bs : List ℕ) (at n x b : ℕ) (l : Option ℕ) → l ≡ number_at bs at n → l ≡ Some x → 16 ^ n ≡ b → x < b
number_small bs at n x b l e g p =
    let r : Reads bs at n x = number_reads bs at n x (sym e ∙ g) in
    rw (← r.number, ← p) (value_small bs at n r.good)

-- numbers after others
abbrev pub follow : List ℕ → Option (List ℕ) → Option (List ℕ)
follow xs (Some ys) = Some (xs ++ ys)
follow xs None = None

follow_none : (r : Option (List ℕ)) → follow [] r ≡ r
follow_none (Some ys) = refl
follow_none None = refl

follow_next : (xs : List ℕ) (x : ℕ) (r : Option (List ℕ)) → follow xs (before (Some x) r) ≡ follow (xs ++ x ∷ []) r
follow_next xs x (Some ys) = ap Some (sym (append_assoc xs (x ∷ []) ys))
follow_next xs x None = refl

module _ (text : List ℕ) (d n : ℕ) where
  pub numbers_begin : follow [] (numbers_from text d 0 (n - 0)) ≡ numbers_from text d 0 n
  numbers_begin =
      let m : n - 0 ≡ n = omega arith in
      rw m (follow_none (numbers_from text d 0 n))

  next_is : (i k : ℕ) → 0 < k → numbers_from text d i k ≡ before (number_at text (d * i) d) (numbers_from text d (suc i) (k - 1))
  unfolding numbers_from
  next_is i zero h = absurd (omega arith)
  next_is i (suc k) h =
      let m : suc k - 1 ≡ k = omega arith in
      rw m

  pub numbers_stop : (i : ℕ) (xs : List ℕ) → number_at text (d * i) d ≡ None → i < n → follow xs (numbers_from text d i (n - i)) ≡ numbers_from text d 0 n → numbers_from text d 0 n ≡ None
  numbers_stop i xs e h q =
      let f : numbers_from text d i (n - i) ≡ None = rw e at (next_is i (n - i) (omega arith)) in
      sym (rw f at q)

  module _ {T : Type 0} (v : T → ℕ) where
    pub numbers_turn : (l : List T) (i x : ℕ) (y : T) → number_at text (d * i) d ≡ Some x → v y ≡ x → i < n → i < length l → follow (map v (take i l)) (numbers_from text d i (n - i)) ≡ numbers_from text d 0 n → follow (map v (take (i + 1) (set l i y))) (numbers_from text d (i + 1) (n - (i + 1))) ≡ numbers_from text d 0 n
    numbers_turn l i x y e g h k q =
        let m : n - i - 1 ≡ n - suc i = omega arith in
        let f : numbers_from text d i (n - i) ≡ before (Some x) (numbers_from text d (suc i) (n - suc i)) = rw (e, m) at (next_is i (n - i) (omega arith)) in
        rw (add-one i, take-suc-set l i y k, map-append, g) (sym (follow_next (map v (take i l)) x (numbers_from text d (suc i) (n - suc i))) ∙ rw f at q)

    pub numbers_over : (l : List T) (i : ℕ) → i ≡ n → follow (map v (take i l)) (numbers_from text d i (n - i)) ≡ numbers_from text d 0 n → numbers_from text d 0 n ≡ Some (map v (take n l))
    unfolding numbers_from
    numbers_over l i e q =
        let m : n - i ≡ 0 = omega arith in
        sym (rw (m, append-nil, e) at q)
