-- The walk over a table, line by line: the fault of a line by the part that it stands in, and what is left from a line on. Assumes nothing.
use Prim.Native.Nat.{ℕ, zero, suc, ◌+◌, ◌-◌, ◌≤◌, ◌<◌}
use mathlib.Core.Path.{◌≡◌, refl}
use mathlib.Core.List.{List}
use native.Mathlib.Omega.{arith}
use native.Mathlib.Decide.{ℕ_discrete}
use native.Mathlib.Numerals.{add-one}
use borrow.Author.Tests.{lt-ltb, le-ltb, lt-leb, le-leb, ne_eqb}
use lib.Dec.{ltb}
use lib.ListN.{length}
use Rattle.std.specs.Prelude.{if◌then◌else◌}
use Rattle.frame.specs.Fault.{instruction_fault}
use Rattle.image.specs.Layout.{frame, counts, bodies, len, lengths, first, due, body_from, body_at, kind_of}
use Rattle.image.specs.Judge.{say, header_fault, body_fault, fault, ending, rest, look, judged}

module _ (fs : List ℕ) where
  pub whole : judged fs ≡ rest fs 0
  unfolding judged rest
  whole =
      let m : length fs - 0 ≡ length fs = omega arith in
      rw m

  -- one line more
  look_fine : (i n : ℕ) → 0 < n → fault fs i ≡ 0 → look fs i n ≡ look fs (suc i) (n - 1)
  unfolding look
  look_fine i zero h e = absurd (omega arith)
  look_fine i (suc n) h e =
      let m : suc n - 1 ≡ n = omega arith in
      rw (e, m)

  look_fault : (i n k : ℕ) → 0 < n → fault fs i ≡ suc k → say (suc k) i ≡ look fs i n
  unfolding look
  look_fault i zero k h e = absurd (omega arith)
  look_fault i (suc n) k h e = rw e

  pub rest_fine : (i : ℕ) → i < length fs → fault fs i ≡ 0 → rest fs i ≡ rest fs (i + 1)
  unfolding rest
  rest_fine i h e =
      let m : length fs - i - 1 ≡ length fs - suc i = omega arith in
      rw add-one (rw m at (look_fine i (length fs - i) (omega arith) e))

  pub rest_fault : (i k : ℕ) → i < length fs → fault fs i ≡ suc k → say (suc k) i ≡ rest fs i
  unfolding rest
  rest_fault i k h e = look_fault i (length fs - i) k (omega arith) e

  pub rest_end : (i : ℕ) → length fs ≤ i → rest fs i ≡ ending fs
  unfolding rest look
  rest_end i h =
      let m : length fs - i ≡ 0 = omega arith in
      rw m

  -- the lengths only grow
  grown : (j k : ℕ) → (j ≤ k → lengths fs j ≤ lengths fs k) → j ≤ suc k → Dec (j ≡ suc k) → lengths fs j ≤ lengths fs (suc k)
  unfolding lengths
  grown j k f h (yes e) = rw e (omega arith)
  grown j k f h (no e) = omega (arith, f (omega arith))

  pub lengths_grow : (j k : ℕ) → j ≤ k → lengths fs j ≤ lengths fs k
  lengths_grow j zero h =
      let e : j ≡ 0 = omega arith in
      rw e (omega arith)
  lengths_grow j (suc k) h = grown j k (lengths_grow j k) h (ℕ_discrete j (suc k))

  pub first_grows : (j k : ℕ) → j ≤ k → first fs j ≤ first fs k
  unfolding first
  first_grows j k h = omega (arith, lengths_grow j k h)

  pub first_next : (k : ℕ) → first fs (suc k) ≡ first fs k + len fs k
  unfolding first lengths
  first_next k = omega arith

  first_low : (k : ℕ) → bodies fs < first fs k
  unfolding first
  first_low k = omega arith

  pub due_above : bodies fs < due fs
  unfolding due first
  due_above = omega arith

  -- the body of a line
  found : (i j k n : ℕ) → (j < k → body_from fs i (suc j) n ≡ k) → j ≤ k → first fs k ≤ i → i < first fs (suc k) → Dec (j ≡ k) → (if ltb i (first fs (suc j)) then j else body_from fs i (suc j) n) ≡ k
  found i j k n f h a b (yes e) = rw (e, lt-ltb i (first fs (suc k)) b)
  found i j k n f h a b (no e) =
      let l : j < k = omega arith in
      let m : first fs (suc j) ≤ i = omega (arith, first_grows (suc j) k l) in
      rw (le-ltb i (first fs (suc j)) m) (f l)

  body_from_lem : (i j k n : ℕ) → j ≤ k → k < j + n → first fs k ≤ i → i < first fs (suc k) → body_from fs i j n ≡ k
  unfolding body_from
  body_from_lem i j k zero h l a b = absurd (omega arith)
  body_from_lem i j k (suc n) h l a b =
      found i j k n (λ m. body_from_lem i (suc j) k n m (omega arith) a b) h a b (ℕ_discrete j k)

  pub body_at_lem : (i k : ℕ) → k < bodies fs → first fs k ≤ i → i < first fs (suc k) → body_at fs i ≡ k
  unfolding body_at
  body_at_lem i k h a b = body_from_lem i 0 k (bodies fs) (omega arith) (omega arith) a b

  -- the fault of a line, by the part of the table that it stands in
  pub fault_header : fault fs 0 ≡ header_fault (frame fs 0)
  unfolding fault
  fault_header = refl

  pub fault_body : (k : ℕ) → k < bodies fs → fault fs (k + 1) ≡ body_fault fs k
  unfolding fault
  fault_body k h =
      let m : k + 1 - 1 ≡ k = omega arith in
      rw (ne_eqb (k + 1) 0 (omega arith), le-leb (k + 1) (bodies fs) (omega arith), m)

  pub fault_instruction : (i k : ℕ) → k < bodies fs → first fs k ≤ i → i < first fs (suc k) → fault fs i ≡ instruction_fault (counts fs) (kind_of (counts fs) k) (len fs k) (frame fs i)
  unfolding fault due
  fault_instruction i k h a b =
      let l : bodies fs < i = omega (arith, first_low k) in
      let d : i < first fs (bodies fs) = omega (arith, first_grows (suc k) (bodies fs) h) in
      rw (ne_eqb i 0 (omega arith), lt-leb i (bodies fs) l, lt-ltb i (first fs (bodies fs)) d, body_at_lem i k h a b)

  pub fault_past : (i : ℕ) → due fs ≤ i → fault fs i ≡ 0
  unfolding fault
  fault_past i h =
      let l : bodies fs < i = omega (arith, due_above) in
      rw (ne_eqb i 0 (omega arith), lt-leb i (bodies fs) l, le-ltb i (due fs) h)

  -- the table's end
  pub ends_short : length fs < due fs → say 6 (length fs) ≡ ending fs
  unfolding ending
  ends_short h = rw (lt-ltb (length fs) (due fs) h)

  pub ends_extra : due fs < length fs → say 7 (due fs) ≡ ending fs
  unfolding ending
  ends_extra h = rw (le-ltb (length fs) (due fs) (omega arith), lt-ltb (due fs) (length fs) h)

  pub ends_done : due fs ≡ length fs → say 0 (length fs) ≡ ending fs
  unfolding ending
  ends_done h = rw (le-ltb (length fs) (due fs) (omega arith), le-ltb (due fs) (length fs) (omega arith))
