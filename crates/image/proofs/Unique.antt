-- No second verdict fits a contract that fixes what is said: what a verdict says gives it back. Assumes nothing.
use mathlib.Core.Path.{◌≡◌, refl}
use native.Mathlib.Omega.{arith}
use lib.Dec.{eqb}
use Prim.Native.Nat.{ℕ}
use Rattle.std.specs.Prelude.{Result, Ok, Err, if◌then◌else◌}
use Rattle.laws.specs.Unique.{one_answer}
use Rattle.image.specs.declared.Refusal.{Refusal}
use Rattle.image.specs.declared.Refusal.TheVariants.{Line, Header, Body, Op, Field, Short, Extra, Room}
use Rattle.image.specs.Judge.{Said, said}

-- the verdict that says s
abbrev verdict : Said → Result ℕ Refusal
verdict s =
    if eqb s.number 0 then Ok s.line
    else (if eqb s.number 1 then Err (Line s.line)
    else (if eqb s.number 2 then Err Header
    else (if eqb s.number 3 then Err (Body s.line)
    else (if eqb s.number 4 then Err (Op s.line)
    else (if eqb s.number 5 then Err (Field s.line)
    else (if eqb s.number 6 then Err (Short s.line)
    else (if eqb s.number 7 then Err (Extra s.line)
    else Err Room)))))))

verdict_back : (v : Result ℕ Refusal) → verdict (said v) ≡ v
verdict_back (Ok n) = refl
verdict_back (Err (Line i)) = refl
verdict_back (Err Header) = refl
verdict_back (Err (Body i)) = refl
verdict_back (Err (Op i)) = refl
verdict_back (Err (Field i)) = refl
verdict_back (Err (Short i)) = refl
verdict_back (Err (Extra i)) = refl
verdict_back (Err Room) = refl

pub one_verdict : (s : Said) (a b : Result ℕ Refusal) → said a ≡ s → said b ≡ s → a ≡ b
one_verdict = one_answer said verdict verdict_back

-- a refusal is never said as an acceptance is
pub refusal_some : (r : Refusal) → (said (Err r)).number ≡ 0 → ⊥
refusal_some (Line i) e = omega arith
refusal_some Header e = omega arith
refusal_some (Body i) e = omega arith
refusal_some (Op i) e = omega arith
refusal_some (Field i) e = omega arith
refusal_some (Short i) e = omega arith
refusal_some (Extra i) e = omega arith
refusal_some Room e = omega arith
