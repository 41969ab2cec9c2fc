-- Evaluation, each law as an arm of the code has it. Assumes nothing.
use Prim.Native.Nat.{ℕ, ◌%◌, ◌≤◌, ◌<◌}
use mathlib.Core.Path.{◌≡◌, refl, sym, ap, ◌∙◌}
use mathlib.Core.Bool.{Bool, true, false}
use mathlib.Core.List.{List}
use native.Mathlib.Omega.{arith}
use borrow.Author.Tests.{not-true, ltb-true, ne_eqb}
use lib.Dec.{ltb}
use lib.ListN.{length, get_or}
use Rattle.std.specs.Prelude.{if◌then◌else◌, Result, Ok, Err}
use Rattle.laws.specs.Choice.{and_left, and_right}
use Rattle.kernel.specs.Search.{Found, none, found, nth}
use Rattle.kernel.proofs.Search.{nth_some, nth_past, nth_at}
use Rattle.sets.specs.Sets.{has}
use Rattle.sets.specs.Laws.{not_full}
use Rattle.marks.specs.declared.Marks.{Marks}
use Rattle.marks.specs.Marks.{idle, may_run, any_runs}
use Rattle.turns.specs.declared.Control.{Control}
use Rattle.turns.specs.declared.Control.TheVariants.{Runs, UpdatePhase, DeltaPhase, Turn, Evaluation, TimePhase, Over}
use Rattle.ending.specs.declared.Ending.{Ending}
use Rattle.ending.specs.declared.Ending.TheVariants.{NoChoiceLeft, NotRunnable}
use Rattle.ending.specs.Ending.{number_of}
use Rattle.turns.specs.declared.Now.{Now}
use Rattle.turns.specs.Code.{goes_to, dispatch, chosen_by, choice_by, idle_or, evaluated, settled_from, settled}

module _ (choices : List ℕ) (at : ℕ) (m : Marks) where
  pub choice_none : length choices ≤ at → Err NoChoiceLeft ≡ choice_by (nth choices at) m
  choice_none g = rw (nth_past choices at g)

  module _ (g : at < length choices) (c : ℕ) (q : c ≡ get_or choices at 0) (b : Bool) (f : b ≡ may_run m c) where
    pub choice_taken : b ≡ true → Ok (get_or choices at 0) ≡ choice_by (nth choices at) m
    choice_taken r = rw (nth_at choices at g, ← q, ← f, r)

    pub choice_refused : b ≡ false → Err NotRunnable ≡ choice_by (nth choices at) m
    choice_refused r = rw (nth_at choices at g, ← q, ← f, r)

-- a thread that may run is one of them
one_of_lem : (m : Marks) (c : ℕ) → may_run m c ≡ true → any_runs m ≡ true
unfolding may_run any_runs
one_of_lem m c e =
    rw (ne_eqb (idle m % 4294967296) 4294967295 (not_full (idle m) c (ltb-true c 32 (and_left (ltb c 32) _ e)) (not-true (has (idle m) c) (and_right (ltb c 32) _ e))))

module _ (choices : List ℕ) (n : Now) (r : Result ℕ Ending) (h : r ≡ choice_by (nth choices n.chosen) n.marks) where
  pub choice_there : (c : ℕ) → r ≡ Ok c → n.chosen < length choices
  choice_there c e = by (nth choices n.chosen) refl (sym h ∙ e)
    where
      by : (f : Found) → nth choices n.chosen ≡ f → choice_by f n.marks ≡ Ok c → n.chosen < length choices
      by none g y =
          let z : ◌≡◌ {A = ℕ} 0 1 = cc in
          absurd (omega arith)
      by (found d) g y = nth_some choices n.chosen d g

  pub evaluated_chosen : (to : Control) (c d : ℕ) → r ≡ Ok c → d ≡ c → dispatch d n ≡ evaluated choices to n
  unfolding evaluated
  evaluated_chosen to c d e q = ap (λ (i : ℕ). dispatch i n) q ∙ by (nth choices n.chosen) refl (sym h ∙ e)
    where
      named : (d : ℕ) (z : Bool) → may_run n.marks d ≡ z → if◌then◌else◌ {A = Result ℕ Ending} z (Ok d) (Err NotRunnable) ≡ Ok c → dispatch c n ≡ (if any_runs n.marks then (if z then dispatch d n else goes_to (Over (number_of NotRunnable) 0xff 0) n) else goes_to to n)
      named d true q y = rw (one_of_lem n.marks d q) (ap (λ (i : ℕ). dispatch i n) cc)
      named d false q y = cc

      by : (f : Found) → nth choices n.chosen ≡ f → choice_by f n.marks ≡ Ok c → dispatch c n ≡ (if any_runs n.marks then chosen_by f n else goes_to to n)
      by none g y = cc
      by (found d) g y = named d (may_run n.marks d) refl y

  pub evaluated_refused : (to : Control) (k : Ending) (x : Now) → r ≡ Err k → x ≡ idle_or k to n → x ≡ evaluated choices to n
  unfolding evaluated
  evaluated_refused to k x e y = y ∙ by (nth choices n.chosen) refl (sym h ∙ e)
    where
      named : (d : ℕ) (z : Bool) → if◌then◌else◌ {A = Result ℕ Ending} z (Ok d) (Err NotRunnable) ≡ Err k → (if z then dispatch d n else goes_to (Over (number_of NotRunnable) 0xff 0) n) ≡ goes_to (Over (number_of k) 0xff 0) n
      named d true y = cc
      named d false y =
          let e : NotRunnable ≡ k = cc in
          ap (λ (i : Ending). goes_to (Over (number_of i) 0xff 0) n) e

      by : (f : Found) → nth choices n.chosen ≡ f → choice_by f n.marks ≡ Err k → idle_or k to n ≡ (if any_runs n.marks then chosen_by f n else goes_to to n)
      by none g y =
          let e : k ≡ NoChoiceLeft = cc in
          ap (λ (i : Ending). idle_or i to n) e
      by (found d) g y = ap (λ (w : Now). if any_runs n.marks then w else goes_to to n) (sym (named d (may_run n.marks d) y))

pub ruleset evaluated_laws = (evaluated_chosen, evaluated_refused)

-- Evaluation, where the machine stands there
module _ (choices : List ℕ) (n : Now) where
  pub settle_same : (n.control ≡ Turn → ⊥) → (n.control ≡ Evaluation → ⊥) → n ≡ settled choices n
  unfolding settled
  settle_same f g = by n.control refl
    where
      by : (c : Control) → n.control ≡ c → n ≡ settled_from choices n c
      by (Runs b) e = refl
      by UpdatePhase e = refl
      by DeltaPhase e = refl
      by TimePhase e = refl
      by (Over k b p) e = refl
      by Turn e = absurd (f e)
      by Evaluation e = absurd (g e)
