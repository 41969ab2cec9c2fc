-- No op of the table stops a run with a number other than those that specs/Demand.antt names, and no accepted table has an unknown op.
use Prim.Native.Nat.{ℕ, ◌+◌, ◌/◌, ◌%◌, ◌<◌}
use mathlib.Core.Path.{◌≡◌, refl}
use mathlib.Core.Logic.{◌⊎◌, inl, inr}
use mathlib.Core.Bool.{Bool, true, false}
use mathlib.Core.List.{List, [], ◌∷◌}
use native.Mathlib.Omega.{arith}
use lib.Dec.{eqb}
use lib.IntN.{ℤ, ◌+ℤ◌, ◌-ℤ◌, ◌*ℤ◌}
use lib.Signed.{quot_z, rem_z}
use Rattle.std.specs.Prelude.{Some, None, if◌then◌else◌}
use Rattle.word.specs.Word.{Result, value, stop, quot_u, rem_u, signed, bits_of, in_range, narrow, add_s, sub_s, mul_s, division_s, quot_s, rem_s}
use Rattle.frame.specs.Fault.{instruction_fault}
use Rattle.image.specs.Layout.{frame, counts, bodies, len, first, kind_of}
use Rattle.image.specs.Judge.{judged}
use Rattle.image.proofs.Accepted.{fine_instruction}
use Rattle.frame.specs.Ops.{Meaning, takes_imm, takes_input, one, two, may, load, store, goto, goto_if, holds, wait_event, wait_time, notify, notify_after, request, suspend, resume, start_limit, start, unknown, Row, ops, look, look_meaning, uses_of, meaning_of}
use Rattle.kernel.specs.Design.{Table, threads, updates, length_of, instruction}
use Rattle.kernel.specs.Demand.{is_stop}

abbrev pub RightResult : Result → Type 0
RightResult (value x) = Unit {0}
RightResult (stop n) = is_stop n ≡ true

-- a value, or one of the numbers
by_result : (b : Bool) (x n : ℕ) → is_stop n ≡ true → RightResult (if b then value x else stop n)
by_result true x n q = tt
by_result false x n q = q

unless_zero : (b : Bool) (r : Result) → RightResult r → RightResult (if b then stop 14 else r)
unless_zero true r h = refl
unless_zero false r h = h

-- no operation and no test stops a run with another number
abbrev pub Sound : Meaning → Type 0
Sound (may f) = (x y : ℕ) → RightResult (f x y)
Sound (holds n) = is_stop n ≡ true
Sound takes_imm = Unit {0}
Sound takes_input = Unit {0}
Sound (one f) = Unit {0}
Sound (two f) = Unit {0}
Sound load = Unit {0}
Sound store = Unit {0}
Sound goto = Unit {0}
Sound goto_if = Unit {0}
Sound wait_event = Unit {0}
Sound wait_time = Unit {0}
Sound notify = Unit {0}
Sound notify_after = Unit {0}
Sound request = Unit {0}
Sound suspend = Unit {0}
Sound resume = Unit {0}
Sound start_limit = Unit {0}
Sound start = Unit {0}
Sound unknown = ⊥

-- each row of a list of ops
infixr 5 ◌&◌
data Sounds : List Row → Type 0 where
  end : Sounds []
  ◌&◌ : {r : Row} {rs : List Row} → Sound r.meaning → Sounds rs → Sounds (r ∷ rs)

-- what is found in the list is sound, or nothing is found
look_sound : (rs : List Row) (n : ℕ) → Sounds rs → Sound (look_meaning rs n) ⊎ ((look_meaning rs n ≡ unknown) × (look rs n ≡ None))
look_sound [] n end = inr (refl, refl)
look_sound (r ∷ rs) n (p & h) = by (eqb n r.number) (look_sound rs n h)
  where
    by : (b : Bool) → Sound (look_meaning rs n) ⊎ ((look_meaning rs n ≡ unknown) × (look rs n ≡ None)) → Sound (if b then r.meaning else look_meaning rs n) ⊎ (((if b then r.meaning else look_meaning rs n) ≡ unknown) × ((if b then Some r.uses else look rs n) ≡ None))
    by true q = inl p
    by false q = q

right_quotient : (x y : ℕ) → RightResult (quot_u x y)
unfolding quot_u
right_quotient x y = unless_zero (eqb y 0) (value (x / y)) tt

right_remainder : (x y : ℕ) → RightResult (rem_u x y)
unfolding rem_u
right_remainder x y = unless_zero (eqb y 0) (value (x % y)) tt

right_narrow : (w : ℕ) (z : ℤ) → RightResult (narrow w z)
unfolding narrow
right_narrow w z = by_result (in_range w z) (bits_of w z) 15 refl

right_sum : (w x y : ℕ) → RightResult (add_s w x y)
unfolding add_s
right_sum w x y = right_narrow w (signed w x +ℤ signed w y)

right_difference : (w x y : ℕ) → RightResult (sub_s w x y)
unfolding sub_s
right_difference w x y = right_narrow w (signed w x -ℤ signed w y)

right_product : (w x y : ℕ) → RightResult (mul_s w x y)
unfolding mul_s
right_product w x y = right_narrow w (signed w x *ℤ signed w y)

right_division : (f : ℤ → ℤ → ℤ) (w x y : ℕ) → RightResult (division_s f w x y)
unfolding division_s
right_division f w x y =
    unless_zero (eqb y 0) _ (by_result (in_range w (quot_z (signed w x) (signed w y))) (bits_of w (f (signed w x) (signed w y))) 15 refl)

right_signed_quotient : (w x y : ℕ) → RightResult (quot_s w x y)
unfolding quot_s
right_signed_quotient w x y = right_division quot_z w x y

right_signed_remainder : (w x y : ℕ) → RightResult (rem_s w x y)
unfolding rem_s
right_signed_remainder w x y = right_division rem_z w x y

sound_ops : Sounds ops
sound_ops =
    tt & tt & tt & tt & tt & tt & right_quotient & right_remainder
    & right_sum 32 & right_difference 32 & right_product 32 & right_signed_quotient 32 & right_signed_remainder 32
    & tt & tt & tt & tt & tt & tt & tt & tt & tt & tt & tt & tt & tt & tt & refl & refl
    & tt & tt & tt & tt & tt & tt & tt & tt & tt & end

-- The instructions of a table -------------------------------------------------------------------------------------

module _ (t : Table) where
  -- an accepted table has no unknown op in its bodies
  no_unknown : (k p : ℕ) → k < threads t + updates t + 1 → p < length_of t k → uses_of (instruction t k p).op ≡ None → (judged t).number ≡ 0 → ⊥
  unfolding instruction_fault bodies
  no_unknown k p l m q good =
      let e : instruction_fault (counts t) (kind_of (counts t) k) (len t k) (frame t (first t k + p)) ≡ 0 = fine_instruction t good k p (omega arith) m in
      let z : ◌≡◌ {A = ℕ} 4 0 = rw q at e in
      omega arith

  pub found_sound : (k p : ℕ) → k < threads t + updates t + 1 → p < length_of t k → Sound (meaning_of (instruction t k p).op) ⊎ ((meaning_of (instruction t k p).op ≡ unknown) × ((judged t).number ≡ 0 → ⊥))
  unfolding meaning_of uses_of
  found_sound k p l m = by (look_sound ops (instruction t k p).op sound_ops)
    where
      o : ℕ
      o = (instruction t k p).op

      by : Sound (look_meaning ops o) ⊎ ((look_meaning ops o ≡ unknown) × (look ops o ≡ None)) → Sound (look_meaning ops o) ⊎ ((look_meaning ops o ≡ unknown) × ((judged t).number ≡ 0 → ⊥))
      by (inl h) = inl h
      by (inr e) = inr (e.0, no_unknown k p l m e.1)
