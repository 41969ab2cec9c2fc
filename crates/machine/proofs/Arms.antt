-- The definitions of one turn, each law as an arm of the code has it. Assumes nothing.
use Prim.Native.Nat.{ℕ, zero, suc, ◌+◌, ◌-◌, ◌%◌, ◌≤◌, ◌<◌}
use mathlib.Core.Path.{◌≡◌, refl, sym, ap, ◌∙◌}
use mathlib.Core.Bool.{Bool, true, false, false≢true}
use mathlib.Core.List.{List}
use native.Mathlib.Omega.{arith}
use borrow.Author.Tests.{eqb-false}
use lib.Dec.{eqb}
use Rattle.std.specs.Prelude.{if◌then◌else◌}
use Rattle.kernel.specs.Search.{none, found}
use Rattle.sets.specs.Sets.{least_of as least_in}
use Rattle.sets.specs.Laws.{least_in_lem}
use Rattle.marks.specs.declared.Marks.{Marks}
use Rattle.std.proofs.Common.{Option, Some}
use Rattle.marks.specs.Marks.{found_of, first_asked}
use Rattle.turns.specs.declared.Control.{Control}
use Rattle.turns.specs.declared.Control.TheVariants.{Runs, UpdatePhase, DeltaPhase, Turn, Evaluation, TimePhase, Over}
use Rattle.turns.specs.declared.Now.{Now}
use Rattle.shows.specs.Shows.{Lists}
use Rattle.turns.specs.declared.State.{State}
use Rattle.turns.specs.Code.{code, settled, turn_from, turn, is_over, turns, Code, SameSlices}
use Rattle.evaluation.proofs.Arms.{settle_same}

-- The update phase
pub asked_few : (m : Marks) (u : ℕ) → first_asked m ≡ found u → u < 32
unfolding first_asked
asked_few m u e = by (eqb (m.requested % 4294967296) 0) refl e
  where
    by : (z : Bool) → eqb (m.requested % 4294967296) 0 ≡ z → (if z then none else found (least_in m.requested)) ≡ found u → u < 32
    by true g y =
        let z : ◌≡◌ {A = ℕ} 0 1 = cc in
        absurd (omega arith)
    by false g y =
        let q : least_in m.requested ≡ u = cc in
        omega (arith, (least_in_lem m.requested (eqb-false (m.requested % 4294967296) 0 g)).0)

pub few_asked : (m : Marks) (u : ℕ) (r : Option ℕ) → found_of r ≡ first_asked m → r ≡ Some u → u < 32
few_asked m u r h e = asked_few m u (sym h ∙ ap found_of e)

-- What a turn lends it lends of the same slices, and so do two
pub same_slices : (a b c : State) → SameSlices a b → SameSlices b c → SameSlices a c
same_slices a b c p q = (q.0 ∙ p.0, q.1 ∙ p.1, q.2 ∙ p.2, q.3 ∙ p.3)

-- The loop
module _ (table choices inputs firsts : List ℕ) (t : ℕ) where
  -- where the run is over it does nothing
  over_turns : (n : Now) (l : Lists) (ps cs : List ℕ) → is_over n.control ≡ true → code n l ps cs ≡ turn table choices inputs firsts t (code n l ps cs)
  unfolding turn
  over_turns n l ps cs q =
      let e : n ≡ settled choices n = settle_same choices n (λ x. false≢true (ap is_over (sym x) ∙ q)) (λ x. false≢true (ap is_over (sym x) ∙ q)) in
      rw (← e) (by n.control q)
    where
      by : (x : Control) → is_over x ≡ true → code n l ps cs ≡ turn_from table inputs firsts t (code n l ps cs) x
      by (Over a b p) o = refl
      by (Runs b) o = absurd (false≢true o)
      by UpdatePhase o = absurd (false≢true o)
      by DeltaPhase o = absurd (false≢true o)
      by Turn o = refl
      by Evaluation o = refl
      by TimePhase o = absurd (false≢true o)

  over_stays : (k : ℕ) (c : Code) → is_over c.now.control ≡ true → c ≡ turns table choices inputs firsts t k c
  unfolding turns
  over_stays zero c e = refl
  over_stays (suc k) c e =
      over_stays k c e ∙ ap (turns table choices inputs firsts t k) (over_turns c.now c.lists c.places c.cells e)

  -- after i of b turns; w is where all of them lead
  module _ (b i : ℕ) (c w : Code) (inv : turns table choices inputs firsts t (b - i) c ≡ w) where
    pub machine_over : (z : Bool) → z ≡ is_over c.now.control → z ≡ true → c ≡ w
    machine_over z e q = over_stays (b - i) c (sym e ∙ q) ∙ inv

    pub machine_turn : (d : Code) → i < b → d ≡ turn table choices inputs firsts t c → turns table choices inputs firsts t (b - (i + 1)) d ≡ w
    unfolding turns
    machine_turn d h e = let m : b - i ≡ suc (b - (i + 1)) = omega arith in rw e (rw m at inv)

    pub machine_done : b ≤ i → c ≡ w
    unfolding turns
    machine_done h = let m : b - i ≡ 0 = omega arith in rw m at inv
