-- Laws of digits, as the code's arms have them, and that reading and writing digits undo each other.
use Prim.Native.Nat.{ℕ, zero, suc, ◌+◌, ◌-◌, ◌*◌, ◌/◌, ◌%◌, ◌^◌, ◌≤◌, ◌<◌}
use Rattle.std.specs.Prelude.{◌≡◌, Bool, ◌&&◌, ltb, leb, set, take, drop, slice_range, Option, None, Some, if◌then◌else◌}
use Rattle.std.proofs.Math.Path.{refl, ap}
use Rattle.std.proofs.Common.{sym, ◌∙◌, add-one, length-append}
use Rattle.std.proofs.Math.Bool.{true, false}
use mathlib.Core.List.{List, [], ◌∷◌, ◌++◌}
use native.Mathlib.Omega.{arith}
use Rattle.std.proofs.Math.Decide.{ℕ_discrete}
use Rattle.std.proofs.Math.Nat.{pow-suc, pow-le-pow_right}
use borrow.Author.Tests.{ltb-true, ltb-false, leb-true, leb-false, lt-ltb, le-ltb, lt-leb, le-leb}
use Rattle.std.proofs.Math.ListN.{length, get_or, length-drop, get_or-append}
use Rattle.std.proofs.lemmas.List.Edits.{sets}
use Rattle.std.proofs.Math.Seq.{get_or_at, get_or-drop, take-suc, length-take-le}
use Rattle.std.proofs.lemmas.List.{get_or-take}
use Rattle.laws.specs.Choice.{and_left, and_right}
use Rattle.laws.specs.Lists.{sets_snoc}
use Rattle.hexadecimal.specs.Hex.{digit_value, digits, value, number_at, digit_of, hex, written}
use Rattle.hexadecimal.specs.Steps.{Read}

-- a digit
module _ (b : ℕ) where
  pub digit_low : b < 0x30 → 16 ≡ digit_value b
  unfolding digit_value
  digit_low h = rw (lt-leb 0x30 b h, lt-leb 0x61 b (omega arith))

  pub digit_ten : 0x30 ≤ b → b ≤ 0x39 → b - 0x30 ≡ digit_value b
  unfolding digit_value
  digit_ten h g = rw (le-leb 0x30 b h, le-leb b 0x39 g)

  pub digit_gap : 0x39 < b → b < 0x61 → 16 ≡ digit_value b
  unfolding digit_value
  digit_gap h g = rw (le-leb 0x30 b (omega arith), lt-leb b 0x39 h, lt-leb 0x61 b g)

  pub digit_six : 0x61 ≤ b → b ≤ 0x66 → b - 0x57 ≡ digit_value b
  unfolding digit_value
  digit_six h g = rw (le-leb 0x30 b (omega arith), lt-leb b 0x39 (omega arith), le-leb 0x61 b h, le-leb b 0x66 g)

  pub digit_high : 0x66 < b → 16 ≡ digit_value b
  unfolding digit_value
  digit_high h = rw (le-leb 0x30 b (omega arith), lt-leb b 0x39 (omega arith), le-leb 0x61 b (omega arith), lt-leb b 0x66 h)

pub spell_ten : (v : ℕ) → v < 10 → 0x30 + v ≡ digit_of v
unfolding digit_of
spell_ten v h = rw (lt-ltb v 10 h)

pub spell_six : (v : ℕ) → 10 ≤ v → 0x57 + v ≡ digit_of v
unfolding digit_of
spell_six v h = rw (le-ltb v 10 h)

-- the reading loop
module _ (bs : List ℕ) (at : ℕ) where
  pub read_none : Read bs at 0 0
  unfolding digits value
  read_none = record { good = refl; number = refl; small = omega arith }

  pub read_turn : (j x v : ℕ) → Read bs at j x → v ≡ digit_value (get_or bs (at + j) 0) → v < 16 → Read bs at (j + 1) (x * 16 + v)
  unfolding digits value
  read_turn j x v r e h =
      let p : 16 ^ suc j ≡ 16 ^ j * 16 = pow-suc 16 j in
      let b : x < 16 ^ j = r.small in
      let m : x * 16 + v < 16 ^ suc j = rw p (omega arith) in
      rw (add-one j) (record { good = rw (r.good, ← e, lt-ltb v 16 h); number = rw (← r.number, ← e); small = m })

  pub read_fits : (j x v : ℕ) → Read bs at j x → j < 16 → v < 16 → x * 16 + v < 2 ^ 64
  read_fits j x v r l h =
      let o : 0 < 16 = omega arith in
      let k : j ≤ 15 = omega arith in
      let p : 16 ^ j ≤ 16 ^ 15 = pow-le-pow_right o {i = j} {j = 15} k in
      let b : x < 16 ^ j = r.small in
      let q : x < 16 ^ 15 = omega arith in
      omega arith

  not_digits : (j n : ℕ) → ltb (digit_value (get_or bs (at + j) 0)) 16 ≡ false → (j < n → digits bs at n ≡ false) → j < suc n → Dec (j ≡ n) → digits bs at (suc n) ≡ false
  unfolding digits
  not_digits j n e f h (yes q) = rw (← q, e) (and_false (digits bs at j))
    where
      and_false : (b : Bool) → b && false ≡ false
      and_false true = refl
      and_false false = refl
  not_digits j n e f h (no q) = rw (f (omega arith))

  bad_digit : (j n : ℕ) → j < n → ltb (digit_value (get_or bs (at + j) 0)) 16 ≡ false → digits bs at n ≡ false
  bad_digit j zero h e = absurd (omega arith)
  bad_digit j (suc n) h e = not_digits j n e (λ l. bad_digit j n l e) h (ℕ_discrete j n)

  -- the arms that answer
  pub number_long : (n : ℕ) → 16 < n → None ≡ number_at bs at n
  unfolding number_at
  number_long n h = rw (lt-leb n 16 h)

  pub number_cut : (n : ℕ) → length bs < at + n → None ≡ number_at bs at n
  unfolding number_at
  number_cut n h = rw (lt-leb (at + n) (length bs) h) (either (leb n 16))
    where
      either : (t : Bool) → None ≡ (if t && false && digits bs at n then Some (value bs at n) else None)
      either true = refl
      either false = refl

  pub number_past : (n : ℕ) → length bs < at → None ≡ number_at bs at n
  number_past n h = number_cut n (omega arith)

  pub number_short : (n : ℕ) → at ≤ length bs → length bs - at < n → None ≡ number_at bs at n
  number_short n h g = number_cut n (omega arith)

  module _ (n : ℕ) (h : n ≤ 16) (g : at + n ≤ length bs) where
    pub number_bad : (j v : ℕ) → j < n → v ≡ digit_value (get_or bs (at + j) 0) → 16 ≤ v → None ≡ number_at bs at n
    unfolding number_at
    number_bad j v l e m = rw (le-leb n 16 h, le-leb (at + n) (length bs) g, bad_digit j n l (rw (← e) (le-ltb v 16 m)))

    pub number_good : (j x : ℕ) → Read bs at j x → n ≤ j → j ≤ n → Some x ≡ number_at bs at n
    unfolding number_at
    number_good j x r a b =
        let m : j ≡ n = omega arith in
        let d : digits bs at n ≡ true = rw m at r.good in
        let q : x ≡ value bs at n = rw m at r.number in
        rw (le-leb n 16 h, le-leb (at + n) (length bs) g, d, q)

module _ (bs : List ℕ) (at n j x : ℕ) (r : Read bs at j x) (l : j < n) (s : n ≤ 16) where
  pub read_mul : x * 16 < 2 ^ 64
  read_mul = omega (arith, read_fits bs at j x 0 r (omega arith) (omega arith))

  pub read_add : (v : ℕ) → v < 16 → x * 16 + v < 2 ^ 64
  read_add v h = read_fits bs at j x v r (omega arith) h

-- the same at the start of the digits
module _ (bs : List ℕ) (n : ℕ) (q : length bs ≡ n) (h : n ≤ 16) where
  pub next_digit : (j x v : ℕ) → Read bs 0 j x → v ≡ digit_value (get_or bs j 0) → v < 16 → Read bs 0 (j + 1) (x * 16 + v)
  next_digit j x v r e l =
      let z : 0 + j ≡ j = omega arith in
      read_turn bs 0 j x v r (rw z e) l

  pub no_digit : (j : ℕ) → j < n → digit_value (get_or bs j 0) ≡ 16 → None ≡ number_at bs 0 n
  no_digit j l e =
      let z : 0 + j ≡ j = omega arith in
      number_bad bs 0 n h (omega arith) j 16 l (rw z (sym e)) (omega arith)

  pub all_digits : (j x : ℕ) → Read bs 0 j x → n ≤ j → j ≤ n → Some x ≡ number_at bs 0 n
  all_digits = number_good bs 0 n h (omega arith)

-- the number at a place is that of the digits there
module _ (bs : List ℕ) (at n : ℕ) where
  abbrev part : List ℕ
  part = take n (drop at bs)

  part_digit : (j : ℕ) → j < n → get_or part (0 + j) 0 ≡ get_or bs (at + j) 0
  part_digit j h =
      let z : 0 + j ≡ j = omega arith in
      rw (z, get_or-take n (drop at bs) j 0 h) (get_or-drop at bs j 0)

  part_digits : (j : ℕ) → j ≤ n → digits part 0 j ≡ digits bs at j
  unfolding digits
  part_digits zero h = refl
  part_digits (suc j) h = rw (part_digits j (omega arith), part_digit j (omega arith))

  part_value : (j : ℕ) → j ≤ n → value part 0 j ≡ value bs at j
  unfolding value
  part_value zero h = refl
  part_value (suc j) h = rw (part_value j (omega arith), part_digit j (omega arith))

  part_length : at + n ≤ length bs → length part ≡ n
  part_length g = length-take-le n (drop at bs) (omega (arith, length-drop at bs))

  number_part : at + n ≤ length bs → number_at part 0 (length part) ≡ number_at bs at n
  unfolding number_at
  number_part g =
      let l : length part ≡ n = part_length g in
      rw (l, part_digits n (omega arith), part_value n (omega arith), le-leb (at + n) (length bs) g, le-leb (0 + n) n (omega arith))

  pub number_there : (end : ℕ) (ds : List ℕ) (r : Option ℕ) → r ≡ number_at ds 0 (length ds) → ds ≡ slice_range bs at end → end ≡ at + n → end ≤ length bs → r ≡ number_at bs at n
  number_there end ds r q d e h =
      let m : end - at ≡ n = omega arith in
      let p : ds ≡ part = rw m at d in
      q ∙ rw p (number_part (omega arith))

-- what a number that was read tells
pub record Reads (bs : List ℕ) (at n x : ℕ) : Type 0 where
  pub there : at + n ≤ length bs
  pub good : digits bs at n ≡ true
  pub number : value bs at n ≡ x

unlike : {A : Type 0} {x : ℕ} → None ≡ Some x → A
unlike e =
    let z : ◌≡◌ {A = ℕ} 0 1 = cc in
    absurd (omega arith)

module _ (bs : List ℕ) (at n x : ℕ) where
  by_tests : (a b d : Bool) → leb (at + n) (length bs) ≡ b → digits bs at n ≡ d → (if a && b && d then Some (value bs at n) else None) ≡ Some x → Reads bs at n x
  by_tests true true true q r e = record { there = leb-true (at + n) (length bs) q; good = r; number = cc }
  by_tests true true false q r e = unlike e
  by_tests true false d q r e = unlike e
  by_tests false b d q r e = unlike e

  pub number_reads : number_at bs at n ≡ Some x → Reads bs at n x
  unfolding number_at
  number_reads e = by_tests (leb n 16) (leb (at + n) (length bs)) (digits bs at n) refl refl e

  pub reads_number : n ≤ 16 → Reads bs at n x → number_at bs at n ≡ Some x
  unfolding number_at
  reads_number h r = rw (le-leb n 16 h, le-leb (at + n) (length bs) r.there, r.good, r.number)

-- the writing loop
pub length_hex : (n x : ℕ) → length (hex n x) ≡ n
unfolding hex
length_hex zero x = refl
length_hex (suc n) x = simp (length-append, length_hex n (x / 16)) (omega arith)

pub hex_turn : (l ys : List ℕ) (at j x d : ℕ) → sets l at (hex j x) ≡ ys → 0 < j → d ≡ digit_of (x % 16) → sets (set l (at + (j - 1)) d) at (hex (j - 1) (x / 16)) ≡ ys
unfolding hex
hex_turn l ys at zero x d e h g = absurd (omega arith)
hex_turn l ys at (suc j) x d e h g =
    let m : suc j - 1 ≡ j = omega arith in
    rw (m, g) (sym (sets_snoc l (hex j (x / 16)) at (digit_of (x % 16)) ∙ rw (length_hex j (x / 16))) ∙ e)

pub hex_end : (l ys : List ℕ) (at j x : ℕ) → j ≤ 0 → sets l at (hex j x) ≡ ys → l ≡ ys
unfolding hex
hex_end l ys at zero x h e = e
hex_end l ys at (suc j) x h e = absurd (omega arith)

-- a digit of a value, and the value of a digit
spelt : (v : ℕ) → v < 16 → (b : Bool) → ltb v 10 ≡ b → digit_value (digit_of v) ≡ v
spelt v h true e =
    let l : v < 10 = ltb-true v 10 e in
    let m : 0x30 + v - 0x30 ≡ v = omega arith in
    rw (← spell_ten v l) (sym (digit_ten (0x30 + v) (omega arith) (omega arith)) ∙ m)
spelt v h false e =
    let l : 10 ≤ v = ltb-false v 10 e in
    let m : 0x57 + v - 0x57 ≡ v = omega arith in
    rw (← spell_six v l) (sym (digit_six (0x57 + v) (omega arith) (omega arith)) ∙ m)

digit_spelt : (v : ℕ) → v < 16 → digit_value (digit_of v) ≡ v
digit_spelt v h = spelt v h (ltb v 10) refl

module _ (b : ℕ) (h : digit_value b < 16) where
  by_range : (w x y z : Bool) → leb 0x30 b ≡ w → leb b 0x39 ≡ x → leb 0x61 b ≡ y → leb b 0x66 ≡ z → digit_of (digit_value b) ≡ b
  by_range false x y z p q r s = absurd (omega (arith, digit_low b (leb-false 0x30 b p)))
  by_range true true y z p q r s =
      let l : 0x30 ≤ b = leb-true 0x30 b p in
      let g : b ≤ 0x39 = leb-true b 0x39 q in
      let m : 0x30 + (b - 0x30) ≡ b = omega arith in
      rw (← digit_ten b l g) (sym (spell_ten (b - 0x30) (omega arith)) ∙ m)
  by_range true false false z p q r s = absurd (omega (arith, digit_gap b (leb-false b 0x39 q) (leb-false 0x61 b r)))
  by_range true false true true p q r s =
      let l : 0x61 ≤ b = leb-true 0x61 b r in
      let g : b ≤ 0x66 = leb-true b 0x66 s in
      let m : 0x57 + (b - 0x57) ≡ b = omega arith in
      rw (← digit_six b l g) (sym (spell_six (b - 0x57) (omega arith)) ∙ m)
  by_range true false true false p q r s = absurd (omega (arith, digit_high b (leb-false b 0x66 s)))

  digit_back : digit_of (digit_value b) ≡ b
  digit_back = by_range (leb 0x30 b) (leb b 0x39) (leb 0x61 b) (leb b 0x66) refl refl refl refl

module _ (bs : List ℕ) (at : ℕ) where
  -- where a text has the digits of x, they are read as x
  pub hex_read : (n x : ℕ) → ((j : ℕ) → j < n → get_or bs (at + j) 0 ≡ get_or (hex n x) j 0) → x < 16 ^ n → (digits bs at n ≡ true) × (value bs at n ≡ x)
  unfolding hex digits value
  hex_read zero x h l = (refl, omega arith)
  hex_read (suc n) x h l =
      let p : 16 ^ suc n ≡ 16 ^ n * 16 = pow-suc 16 n in
      let q : x / 16 < 16 ^ n = omega arith in
      let k : length (hex n (x / 16)) ≡ n = length_hex n (x / 16) in
      let f : (j : ℕ) → j < n → get_or bs (at + j) 0 ≡ get_or (hex n (x / 16)) j 0 = λ j i. h j (omega arith) ∙ get_or-append (hex n (x / 16)) (digit_of (x % 16) ∷ []) 0 j (omega arith) in
      let r : (digits bs at n ≡ true) × (value bs at n ≡ x / 16) = hex_read n (x / 16) f q in
      let d : get_or bs (at + n) 0 ≡ digit_of (x % 16) = h n (omega arith) ∙ get_or_at (hex n (x / 16)) (digit_of (x % 16)) [] 0 n k in
      let v : digit_value (get_or bs (at + n) 0) ≡ x % 16 = ap digit_value d ∙ digit_spelt (x % 16) (omega arith) in
      (rw (r.0, v) (lt-ltb (x % 16) 16 (omega arith)), rw (r.1, v) (omega arith))

  -- and the digits of what was read are the text's
  pub hex_back : (n : ℕ) → digits bs at n ≡ true → at + n ≤ length bs → hex n (value bs at n) ≡ take n (drop at bs)
  unfolding hex digits value
  hex_back zero e h = refl
  hex_back (suc n) e h =
      let b : digit_value (get_or bs (at + n) 0) < 16 = ltb-true _ 16 (and_right (digits bs at n) (ltb (digit_value (get_or bs (at + n) 0)) 16) e) in
      let q : (value bs at n * 16 + digit_value (get_or bs (at + n) 0)) / 16 ≡ value bs at n = omega arith in
      let m : (value bs at n * 16 + digit_value (get_or bs (at + n) 0)) % 16 ≡ digit_value (get_or bs (at + n) 0) = omega arith in
      let g : get_or (drop at bs) n 0 ≡ get_or bs (at + n) 0 = get_or-drop at bs n 0 in
      let l : n < length (drop at bs) = omega (arith, length-drop at bs) in
      rw (q, m, digit_back (get_or bs (at + n) 0) b, take-suc (drop at bs) n 0 l, g)
      (ap (λ (xs : List ℕ). xs ++ get_or bs (at + n) 0 ∷ []) (hex_back n (and_left (digits bs at n) (ltb (digit_value (get_or bs (at + n) 0)) 16) e) (omega arith)))

-- a text with digits written, where there is room for them and where there is not
module _ (x n : ℕ) (bs : List ℕ) (at : ℕ) where
  pub written_there : (m : List ℕ) → at ≤ length bs → n ≤ length bs - at → m ≡ sets bs at (hex n x) → m ≡ written x n bs at
  unfolding written
  written_there m h g e = rw (le-leb (at + n) (length bs) (omega arith)) e

  pub written_cut : at ≤ length bs → length bs - at < n → bs ≡ written x n bs at
  unfolding written
  written_cut h g = rw (lt-leb (at + n) (length bs) (omega arith))

  pub written_past : length bs < at → bs ≡ written x n bs at
  unfolding written
  written_past h = rw (lt-leb (at + n) (length bs) (omega arith))
