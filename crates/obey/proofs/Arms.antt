-- What an instruction that is not plain comes to, each law as an arm of the code has it. Assumes nothing.
use Prim.Native.Nat.{ℕ, zero, suc, ◌+◌, ◌≤◌, ◌<◌}
use mathlib.Core.Path.{◌≡◌, refl, sym, ◌∙◌}
use mathlib.Core.Bool.{Bool, true, false, not, ◌&&◌}
use mathlib.Core.List.{List, []}
use native.Mathlib.Omega.{arith}
use borrow.Author.Tests.{ltb-true, lt-leb}
use lib.Dec.{eqb, ltb}
use lib.ListN.{length, get_or}
use Rattle.std.specs.Prelude.{Result, Ok, Err}
use Rattle.kernel.specs.Search.{nth, sum}
use Rattle.kernel.proofs.Measure.{time_one}
use Rattle.kernel.proofs.Search.{nth_past, nth_at}
use Rattle.dues.specs.Codes.{pend_of}
use Rattle.dues.specs.Dues.{count_at}
use Rattle.shows.specs.Shows.{lists}
use Rattle.ending.specs.declared.Ending.{Ending}
use Rattle.ending.specs.declared.Ending.TheVariants.{NoInputLeft}
use Rattle.obey.specs.Tests.{input_by}
use Rattle.turns.specs.Code.{full}

-- Inputs
module _ (inputs : List ℕ) (k : ℕ) where
  pub input_none : length inputs ≤ k → ◌≡◌ {A = Result ℕ Ending} (Err NoInputLeft) (input_by (nth inputs k))
  input_none h = rw (nth_past inputs k h)

  pub input_some : k < length inputs → ◌≡◌ {A = Result ℕ Ending} (Ok (get_or inputs k 0)) (input_by (nth inputs k))
  input_some h = rw (nth_at inputs k h)

-- of so many no more stand
sum_ones : (f : ℕ → ℕ) → ((i : ℕ) → f i ≤ 1) → (n : ℕ) → sum f n ≤ n
unfolding sum
sum_ones f h zero = omega arith
sum_ones f h (suc n) = omega (arith, h n, sum_ones f h n)

pub full_few : (adds : Bool) (q : ℕ) (ps ws : List ℕ) (z : Bool) → z ≡ ltb (length ps + length ws) 48 → z ≡ true → false ≡ full adds q (lists ps ws [])
full_few adds q ps ws z e f =
    let a : sum (count_at ps) (length ps) ≤ length ps = sum_ones (count_at ps) (λ i. time_one (pend_of (get_or ps i 0))) (length ps) in
    let b : sum (count_at ws) (length ws) ≤ length ws = sum_ones (count_at ws) (λ i. time_one (pend_of (get_or ws i 0))) (length ws) in
    rw (lt-leb 48 (sum (count_at ps) (length ps) + sum (count_at ws) (length ws)) (omega (arith, ltb-true (length ps + length ws) 48 (sym e ∙ f)))) (none_left (not (eqb q 0)) adds)
  where
    none_left : (a b : Bool) → false ≡ a && (b && false)
    none_left true true = refl
    none_left true false = refl
    none_left false b = refl
