-- The decision over the plain op numbers, each law as an arm of the code has it. Assumes nothing.
use Prim.Native.Nat.{ℕ, zero, suc, ◌+◌, ◌-◌, ◌≤◌, ◌<◌}
use mathlib.Core.Path.{◌≡◌, refl, ap, ◌∙◌}
use mathlib.Core.Bool.{Bool, true, false}
use mathlib.Core.List.{List, [], ◌∷◌}
use native.Mathlib.Omega.{arith}
use native.Mathlib.Numerals.{add-one}
use borrow.Author.Tests.{le-leb, lt-leb, eq-eqb, ne_eqb}
use lib.Dec.{T, eqb, leb}
use lib.ListN.{get_or}
use Rattle.std.specs.Prelude.{if◌then◌else◌}
use Rattle.laws.specs.Span.{Arm, AllTold, Rest, Outside, in_span, the_rest}
use Rattle.word.specs.Word.{Result, value, stop}
use Rattle.frame.specs.declared.Frame.{Frame}
use Rattle.frame.specs.Ops.{Meaning, takes_imm, takes_input, one, two, may, load, store, goto, goto_if, holds, wait_event, wait_time, notify, notify_after, request, suspend, resume, start_limit, start, unknown, meaning_of}
use Rattle.kernel.specs.Kernel.{nothing}
use Rattle.kernel.specs.Effect.{sets, does, stop_if, sets_to, goes_if, effect}
use Rattle.effect.specs.Parts.{put_of, jump_of}
use Rattle.ending.specs.declared.Ending.TheVariants.{AssertFailed, AssumeFailed, OutOfRegion}
use Rattle.ending.specs.Ending.{ending_of}
use Rattle.effect.specs.declared.Eff.{Eff}
use Rattle.effect.specs.declared.Eff.TheVariants.{Put, Next, Go, Stop, Leave}
use Rattle.plain.specs.Plain.{is_plain, seen, as_eff, plain_effect, stands, Comes, load_of, store_of, hold_of}

-- Single functions
module _ (i : Frame) (cs : List ℕ) (v x : ℕ) (e : x ≡ v) where
  pub load_out : i.b ≤ x → Stop OutOfRegion ≡ load_of i v cs
  load_out h = rw (← e, le-leb i.b x h)

  pub load_in : (y : ℕ) → x < i.b → y ≡ get_or cs (i.imm + x) 0 → Put i.d y ≡ load_of i v cs
  load_in y h q = rw (← e, lt-leb i.b x h, q)

  pub store_out : i.b ≤ x → Stop OutOfRegion ≡ store_of i v cs
  store_out h = rw (← e, le-leb i.b x h)

  pub store_in : (y : ℕ) → x < i.b → y ≡ get_or cs i.d 0 → Put (i.imm + x) y ≡ store_of i v cs
  store_in y h q = rw (← e, lt-leb i.b x h, q)

module _ (x : ℕ) where
  pub assert_fails : (op : ℕ) → x ≡ 0 → op ≡ 0x50 → Stop AssertFailed ≡ hold_of x (12 + (op - 0x50))
  assert_fails op e q = rw (eq-eqb x 0 e, q)

  pub assume_fails : (op : ℕ) → x ≡ 0 → 0x50 ≤ op → op ≤ 0x51 → (op ≡ 0x50 → ⊥) → Stop AssumeFailed ≡ hold_of x (12 + (op - 0x50))
  assume_fails op e a b n =
      let q : op ≡ 0x51 = omega arith in
      rw (eq-eqb x 0 e, q)

  pub hold_passes : (n : ℕ) → (x ≡ 0 → ⊥) → Next ≡ hold_of x n
  hold_passes n e = rw (ne_eqb x 0 e)

-- The decision
module _ (i : Frame) (cs : List ℕ) where
  pub is_imm : i.op ≡ 0x01 → Comes (Put i.d i.imm) i cs
  unfolding meaning_of effect plain_effect
  is_imm e place = rw e

  pub is_goto : i.op ≡ 0x40 → Comes (Go i.imm) i cs
  unfolding meaning_of effect plain_effect
  is_goto e place = rw e

  module _ (x : ℕ) (g : x ≡ get_or cs i.a 0) where
    if_out : (place : ℕ) (z : Bool) (d v : ℕ) → stands place (if z then Stop OutOfRegion else Put d v) ≡ as_eff place (stop_if z 16 (sets d v))
    if_out place true d v = refl
    if_out place false d v = refl

    pub is_load : (f : Eff) → i.op ≡ 0x30 → f ≡ load_of i x cs → Comes f i cs
    unfolding meaning_of effect plain_effect
    is_load f e q place = rw (e, q, g) (if_out place (leb i.b (get_or cs i.a 0)) i.d (get_or cs (i.imm + get_or cs i.a 0) 0))

    pub is_store : (f : Eff) → i.op ≡ 0x31 → f ≡ store_of i x cs → Comes f i cs
    unfolding meaning_of effect plain_effect
    is_store f e q place = rw (e, q, g) (if_out place (leb i.b (get_or cs i.a 0)) (i.imm + get_or cs i.a 0) (get_or cs i.d 0))

    by_zero : (place x : ℕ) → stands place (jump_of x i.imm) ≡ as_eff place (goes_if x i.imm (suc place))
    by_zero place zero = rw (add-one place)
    by_zero place (suc x) = rw (ne_eqb (suc x) 0 (λ z. omega arith))

    pub is_jump : (f : Eff) → i.op ≡ 0x41 → f ≡ jump_of x i.imm → Comes f i cs
    unfolding meaning_of effect plain_effect
    is_jump f e q place = rw (e, q, g) (by_zero place (get_or cs i.a 0))

    if_holds : (place : ℕ) (z : Bool) (n : ℕ) → stands place (if z then Stop (ending_of n) else Next) ≡ as_eff place (stop_if z n (does nothing))
    if_holds place true n = refl
    if_holds place false n = refl

    held : (n : ℕ) → 0x50 ≤ n → n < 0x50 + 2 → meaning_of n ≡ holds (12 + (n - 0x50))
    unfolding meaning_of
    held = in_span (λ n. meaning_of n ≡ holds (12 + (n - 0x50))) 0x50 2 (refl, (refl, tt))

    pub is_held : (f : Eff) → 0x50 ≤ i.op → i.op < 0x52 → f ≡ hold_of x (12 + (i.op - 0x50)) → Comes f i cs
    unfolding effect plain_effect
    is_held f a b q place =
        let m : meaning_of i.op ≡ holds (12 + (i.op - 0x50)) = held i.op a b in
        rw (m, q, g) (if_holds place (eqb (get_or cs i.a 0) 0) (12 + (i.op - 0x50)))

-- an op that makes a value of the values of a and b
abbrev makes : Meaning → Bool
makes (one f) = true
makes (two f) = true
makes (may f) = true
makes takes_imm = false
makes takes_input = false
makes load = false
makes store = false
makes goto = false
makes goto_if = false
makes (holds n) = false
makes wait_event = false
makes wait_time = false
makes notify = false
makes notify_after = false
makes request = false
makes suspend = false
makes resume = false
makes start_limit = false
makes start = false
makes unknown = false

abbrev made : Meaning → (x y : ℕ) → Result
made (one f) x y = value (f x)
made (two f) x y = value (f x y)
made (may f) x y = f x y
made takes_imm x y = stop 0
made takes_input x y = stop 0
made load x y = stop 0
made store x y = stop 0
made goto x y = stop 0
made goto_if x y = stop 0
made (holds n) x y = stop 0
made wait_event x y = stop 0
made wait_time x y = stop 0
made notify x y = stop 0
made notify_after x y = stop 0
made request x y = stop 0
made suspend x y = stop 0
made resume x y = stop 0
made start_limit x y = stop 0
made start x y = stop 0
made unknown x y = stop 0

lost : {A : Type 0} → false ≡ true → A
lost e =
    let z : ◌≡◌ {A = ℕ} 0 1 = cc in
    absurd (omega arith)

module _ (i : Frame) (cs : List ℕ) where
  as_made : (place : ℕ) (m : Meaning) → makes m ≡ true → stands place (put_of i.d (made m (get_or cs i.a 0) (get_or cs i.b 0))) ≡ (if is_plain m then as_eff place (effect (seen place cs) i m) else Leave)
  unfolding effect
  as_made place (one f) e = refl
  as_made place (two f) e = refl
  as_made place (may f) e = by (f (get_or cs i.a 0) (get_or cs i.b 0))
    where
      by : (r : Result) → stands place (put_of i.d r) ≡ as_eff place (sets_to i.d r)
      by (value x) = refl
      by (stop n) = refl
  as_made place takes_imm e = lost e
  as_made place takes_input e = lost e
  as_made place load e = lost e
  as_made place store e = lost e
  as_made place goto e = lost e
  as_made place goto_if e = lost e
  as_made place (holds n) e = lost e
  as_made place wait_event e = lost e
  as_made place wait_time e = lost e
  as_made place notify e = lost e
  as_made place notify_after e = lost e
  as_made place request e = lost e
  as_made place suspend e = lost e
  as_made place resume e = lost e
  as_made place start_limit e = lost e
  as_made place start e = lost e
  as_made place unknown e = lost e

  -- op n makes a value, or stops, of what x and y are
  module _ (x y : ℕ) (g : x ≡ get_or cs i.a 0) (h : y ≡ get_or cs i.b 0) (n : ℕ) (k : i.op ≡ n) (m : makes (meaning_of n) ≡ true) where
    pub is_made : (f : Eff) (r : Result) → r ≡ made (meaning_of n) x y → f ≡ put_of i.d r → Comes f i cs
    unfolding plain_effect
    is_made f r e q place =
        let a : r ≡ made (meaning_of i.op) (get_or cs i.a 0) (get_or cs i.b 0) = rw (k, ← g, ← h) e in
        let b : makes (meaning_of i.op) ≡ true = rw k m in
        ap (stands place) (q ∙ ap (put_of i.d) a) ∙ as_made place (meaning_of i.op) b

    pub is_value : (v : ℕ) → value v ≡ made (meaning_of n) x y → Comes (Put i.d v) i cs
    is_value v e = is_made (Put i.d v) (value v) e refl

  -- and of x alone
  pub is_one : (x : ℕ) → x ≡ get_or cs i.a 0 → (n : ℕ) → i.op ≡ n → makes (meaning_of n) ≡ true → (v : ℕ) → value v ≡ made (meaning_of n) x (get_or cs i.b 0) → Comes (Put i.d v) i cs
  is_one x g n k m v e = is_value x (get_or cs i.b 0) g refl n k m v e

pub ruleset effect_laws = (is_imm, is_load, is_store, is_goto, is_jump, is_held)

-- any other number
abbrev singles : List Arm
singles = (0x01, []) ∷ (0x02, []) ∷ (0x10, []) ∷ (0x11, []) ∷ (0x12, []) ∷ (0x13, []) ∷ (0x14, []) ∷ (0x18, []) ∷ (0x19, []) ∷ (0x1a, []) ∷ (0x1b, []) ∷ (0x1c, []) ∷ (0x20, []) ∷ (0x21, []) ∷ (0x22, []) ∷ (0x28, []) ∷ (0x29, []) ∷ (0x2a, []) ∷ (0x2b, []) ∷ (0x2c, []) ∷ (0x2d, []) ∷ (0x2e, []) ∷ (0x30, []) ∷ (0x31, []) ∷ (0x40, []) ∷ (0x41, []) ∷ []

abbrev spans : List (ℕ × ℕ)
spans = (0x50, 0x51) ∷ []

abbrev is_other : Bool → Bool
is_other true = false
is_other false = true

every : AllTold (λ n. is_other (is_plain (meaning_of n))) singles spans
unfolding meaning_of
every = tt

pub is_other_lem : (i : Frame) (cs : List ℕ) → i.op < 256 → Rest (Unit {0}) singles i.op → Outside spans i.op → Comes Leave i cs
unfolding plain_effect
is_other_lem i cs h r o place = by (is_plain (meaning_of i.op)) (the_rest (λ n. is_other (is_plain (meaning_of n))) singles spans every i.op h r o)
  where
    by : (z : Bool) → T (is_other z) → Leave ≡ (if z then as_eff place (effect (seen place cs) i (meaning_of i.op)) else Leave)
    by true t = absurd t
    by false t = refl
