-- The fault of an instruction test by test, what an instruction without a fault has, how large a fault's number is, and that no second answer fits.
use Rattle.std.specs.Prelude.{ℕ, ◌≤◌, ◌≡◌, Bool, true, false, not, Option, Some, None, Result, Ok, Err, ⊤, eqb, if◌then◌else◌}
use Rattle.std.proofs.Math.Path.{refl}
use Rattle.std.proofs.Common.{arith}
use borrow.Author.Tests.{not-true, not-false}
use Rattle.laws.specs.Unique.{one_answer}
use Rattle.frame.specs.declared.Frame.{Frame}
use Rattle.frame.specs.declared.Counts.{Counts}
use Rattle.frame.specs.declared.Kind.{Kind}
use Rattle.frame.specs.declared.Uses.{Uses}
use Rattle.frame.specs.declared.Fault.{Fault}
use Rattle.frame.specs.declared.Fault.TheVariants.{Op, Field}
use Rattle.frame.specs.Ops.{uses_of, held_by}
use Rattle.frame.specs.Fault.{fits, all_fit, fault_as, instruction_fault, fault_number}

module _ (c : Counts) (kind : Kind) (n : ℕ) (f : Frame) (k : Option Uses) where
  pub fault_unknown : k ≡ uses_of f.op → k ≡ None → 4 ≡ instruction_fault c kind n f
  unfolding instruction_fault
  fault_unknown h e = rw (← h, e)

  pub fault_not_held : (u : Uses) (m : Bool) → k ≡ uses_of f.op → k ≡ Some u → m ≡ held_by kind u.bodies → not m ≡ true → 4 ≡ instruction_fault c kind n f
  unfolding instruction_fault
  fault_not_held u m h e g t = rw (← h, e, ← g, not-true m t)

  module _ (u : Uses) (m d : Bool) (h : k ≡ uses_of f.op) (e : k ≡ Some u) (g : m ≡ held_by kind u.bodies) (t : not m ≡ false) (gd : d ≡ fits c n f.b u.d f.d) where
    pub fault_d : not d ≡ true → 5 ≡ instruction_fault c kind n f
    unfolding instruction_fault
    fault_d td = rw (← h, e, ← g, not-false m t, ← gd, not-true d td)

    module _ (a : Bool) (td : not d ≡ false) (ga : a ≡ fits c n f.b u.a f.a) where
      pub fault_a : not a ≡ true → 5 ≡ instruction_fault c kind n f
      unfolding instruction_fault
      fault_a ta = rw (← h, e, ← g, not-false m t, ← gd, not-false d td, ← ga, not-true a ta)

      module _ (b : Bool) (ta : not a ≡ false) (gb : b ≡ fits c n f.b u.b f.b) where
        pub fault_b : not b ≡ true → 5 ≡ instruction_fault c kind n f
        unfolding instruction_fault
        fault_b tb = rw (← h, e, ← g, not-false m t, ← gd, not-false d td, ← ga, not-false a ta, ← gb, not-true b tb)

        module _ (i : Bool) (tb : not b ≡ false) (gi : i ≡ fits c n f.b u.imm f.imm) where
          pub fault_imm : not i ≡ true → 5 ≡ instruction_fault c kind n f
          unfolding instruction_fault
          fault_imm ti = rw (← h, e, ← g, not-false m t, ← gd, not-false d td, ← ga, not-false a ta, ← gb, not-false b tb, ← gi, not-true i ti)

          pub fault_none : not i ≡ false → 0 ≡ instruction_fault c kind n f
          unfolding instruction_fault
          fault_none ti = rw (← h, e, ← g, not-false m t, ← gd, not-false d td, ← ga, not-false a ta, ← gb, not-false b tb, ← gi, not-false i ti)

-- what an instruction without a fault has: a known op, allowed in its body, and every field in range for its use
pub record Sound (c : Counts) (kind : Kind) (n : ℕ) (f : Frame) : Type 0 where
  pub uses : Uses
  pub known : uses_of f.op ≡ Some uses
  pub held : held_by kind uses.bodies ≡ true
  pub fit : all_fit c n uses f ≡ true

module _ (c : Counts) (kind : Kind) (n : ℕ) (f : Frame) where
  by_tests : (u : Uses) (m a : Bool) → uses_of f.op ≡ Some u → held_by kind u.bodies ≡ m → all_fit c n u f ≡ a → ◌≡◌ {A = ℕ} (if m then (if a then 0 else 5) else 4) 0 → Sound c kind n f
  by_tests u true true k h g e = record { uses = u; known = k; held = h; fit = g }
  by_tests u true false k h g e = absurd (omega arith)
  by_tests u false a k h g e = absurd (omega arith)

  by_known : (k : Option Uses) → uses_of f.op ≡ k → fault_as k c kind n f ≡ 0 → Sound c kind n f
  by_known None h e = absurd (omega arith)
  by_known (Some u) h e = by_tests u (held_by kind u.bodies) (all_fit c n u f) h refl refl e

  pub sound : instruction_fault c kind n f ≡ 0 → Sound c kind n f
  unfolding instruction_fault
  sound e = by_known (uses_of f.op) refl e

  -- a fault's number is 4 or 5
  small : (m a : Bool) → ◌≤◌ (if m then (if a then 0 else 5) else 4) 5
  small true true = omega arith
  small true false = omega arith
  small false a = omega arith

  small_as : (k : Option Uses) → fault_as k c kind n f ≤ 5
  small_as None = omega arith
  small_as (Some u) = small (held_by kind u.bodies) (all_fit c n u f)

  pub fault_small : instruction_fault c kind n f ≤ 5
  unfolding instruction_fault
  fault_small = small_as (uses_of f.op)

-- No second answer fits `fault_of`'s contract: the number gives the answer back.
abbrev fault_of_number : ℕ → Result ⊤ Fault
fault_of_number n = if eqb n 0 then Ok tt else (if eqb n 4 then Err Op else Err Field)

number_back : (r : Result ⊤ Fault) → fault_of_number (fault_number r) ≡ r
number_back (Ok tt) = refl
number_back (Err Op) = refl
number_back (Err Field) = refl

pub one_fault : (n : ℕ) (a b : Result ⊤ Fault) → fault_number a ≡ n → fault_number b ≡ n → a ≡ b
one_fault = one_answer fault_number fault_of_number number_back
