-- The loop over plain instructions: its end, its last turn, one more turn. Assumes nothing.
use Prim.Native.Nat.{ℕ, zero, suc, ◌+◌, ◌-◌, ◌≤◌, ◌<◌}
use mathlib.Core.Path.{◌≡◌, refl, ◌∙◌}
use mathlib.Core.Bool.{Bool, true, false, ◌&&◌}
use mathlib.Core.List.{List}
use native.Mathlib.Omega.{arith}
use native.Mathlib.Nat.{zero-add}
use borrow.Author.Tests.{lt-ltb, le-ltb, le-leb, lt-leb, ltb-true}
use lib.Dec.{ltb, leb}
use lib.ListN.{length, get_or, set, take, drop, length-drop}
use lib.Seq.{length-take-le, get_or-take, get_or-drop}
use Rattle.frame.specs.declared.Frame.{Frame}
use Rattle.frame.specs.Fields.{fields}
use Rattle.ending.specs.declared.Ending.{Ending}
use Rattle.ending.specs.declared.Ending.TheVariants.{UnknownOp, NoBudgetLeft}
use Rattle.effect.specs.declared.Eff.{Eff}
use Rattle.effect.specs.declared.Eff.TheVariants.{Put, Next, Go, Stop, Leave}
use Rattle.plain.specs.declared.End.TheVariants.{Ended, Left, Stopped}
use Rattle.plain.specs.declared.Ran.{Ran}
use Rattle.plain.specs.Plain.{Out, out, when, after, plain_effect, Comes, plain, able, run_plain}

module _ (t : List ℕ) (len : ℕ) (o : Out) (p x : ℕ) (cs : List ℕ) (inv : plain x t 0 len p cs ≡ o) where
  pub loop_ended : len ≤ p → out Ended p x cs ≡ o
  unfolding plain
  loop_ended h = by x inv
    where
      by : (x : ℕ) → plain x t 0 len p cs ≡ o → out Ended p x cs ≡ o
      by zero e = rw (le-ltb p len h) at e
      by (suc x) e = rw (le-ltb p len h) at e

  pub loop_spent : p < len → x ≡ 0 → out (Stopped NoBudgetLeft) p x cs ≡ o
  unfolding plain
  loop_spent h z = by x z inv
    where
      by : (x : ℕ) → x ≡ 0 → plain x t 0 len p cs ≡ o → out (Stopped NoBudgetLeft) p x cs ≡ o
      by zero z e = rw (lt-ltb p len h) at e
      by (suc x) z e = absurd (omega arith)

  module _ (h : p < len) (z : x ≡ 0 → ⊥) (i : Frame) (f : Eff) (d : i ≡ fields (get_or t p 0)) (g : Comes f i cs) where
    turned : (e : Eff) → e ≡ plain_effect i p cs → after e (plain (x - 1) t 0 len) p x cs ≡ o
    unfolding plain
    turned e q = rw (q, d) (rw (zero-add p) at (by x z inv))
      where
        by : (x : ℕ) → (x ≡ 0 → ⊥) → plain x t 0 len p cs ≡ o → after (plain_effect (fields (get_or t (0 + p) 0)) p cs) (plain (x - 1) t 0 len) p x cs ≡ o
        by zero z e = absurd (z refl)
        by (suc x) z e =
            let m : suc x - 1 ≡ x = omega arith in
            rw m (rw (lt-ltb p len h) at e)

    pub loop_stops : (n : Ending) → f ≡ Stop n → out (Stopped n) p x cs ≡ o
    loop_stops n e = turned (Stop n) (rw e at (g p))

    pub loop_leaves : f ≡ Leave → out Left p x cs ≡ o
    loop_leaves e = turned Leave (rw e at (g p))

    pub loop_nexts : f ≡ Next → plain (x - 1) t 0 len (p + 1) cs ≡ o
    loop_nexts e = turned (Go (p + 1)) (rw e at (g p))

    pub loop_goes : (q : ℕ) → f ≡ Go q → plain (x - 1) t 0 len q cs ≡ o
    loop_goes q e = turned (Go q) (rw e at (g p))

    pub loop_puts : (c v : ℕ) (ds : List ℕ) → f ≡ Put c v → ds ≡ set cs c v → plain (x - 1) t 0 len (p + 1) ds ≡ o
    loop_puts c v ds e q = rw q (turned (Put c v) (rw e at (g p)))

pub ruleset loop_laws = (loop_ended, loop_spent, loop_stops, loop_leaves, loop_nexts, loop_goes, loop_puts)

-- where the body does not lie in the table, or the cells are too few
module _ (budget : ℕ) (t : List ℕ) (base len from : ℕ) (cs : List ℕ) (r : Ran) (e : r ≡ record { end = Stopped UnknownOp; place = from; left = budget }) where
  abbrev Is : Type 0
  Is = record { ran = r; cells = cs } ≡ run_plain budget t base len from cs

  not_able : able t base len cs ≡ false → Is
  unfolding run_plain
  not_able q = rw (q, e)

  both : (a b : Bool) → a && (false && b) ≡ false
  both true b = refl
  both false b = refl

  last : (a b : Bool) → a && (b && false) ≡ false
  last true true = refl
  last true false = refl
  last false b = refl

  pub plain_long : 1024 < len → Is
  plain_long h = not_able (rw (lt-leb len 1024 h) (both (leb (base + len) (length t)) (leb 256 (length cs))))

  pub plain_short : length t < len → Is
  plain_short h = not_able (rw (lt-leb (base + len) (length t) (omega arith)))

  pub plain_past : len ≤ length t → length t - len < base → Is
  plain_past g h = not_able (rw (lt-leb (base + len) (length t) (omega arith)))

  pub plain_narrow : length cs < 256 → Is
  plain_narrow h = not_able (rw (lt-leb 256 (length cs) h) (last (leb (base + len) (length t)) (leb len 1024)))

-- the frames of a body, cut out of the table, run as they do in it
module _ (t : List ℕ) (base len : ℕ) (h : base + len ≤ length t) where
  abbrev body : List ℕ
  body = take len (drop base t)

  same_length : length body ≡ len
  same_length = length-take-le len (drop base t) (omega (arith, length-drop base t))

  same_frame : (p : ℕ) → p < len → get_or body (0 + p) 0 ≡ get_or t (base + p) 0
  same_frame p l = rw (zero-add p) (get_or-take len (drop base t) p 0 l ∙ get_or-drop base t p 0)

  in_body : (x p : ℕ) (cs : List ℕ) → plain x body 0 len p cs ≡ plain x t base len p cs
  unfolding plain
  in_body zero p cs = refl
  in_body (suc x) p cs = go (ltb p len) refl (λ q ds. in_body x q ds)
    where
      rests : (f : Eff) → ((q : ℕ) (ds : List ℕ) → plain x body 0 len q ds ≡ plain x t base len q ds) → after f (plain x body 0 len) p (suc x) cs ≡ after f (plain x t base len) p (suc x) cs
      rests (Put d v) again = again (p + 1) (set cs d v)
      rests Next again = again (p + 1) cs
      rests (Go q) again = again q cs
      rests (Stop n) again = refl
      rests Leave again = refl

      go : (z : Bool) → ltb p len ≡ z → ((q : ℕ) (ds : List ℕ) → plain x body 0 len q ds ≡ plain x t base len q ds) → when z (λ _. after (plain_effect (fields (get_or body (0 + p) 0)) p cs) (plain x body 0 len) p (suc x) cs) (out Ended p (suc x) cs) ≡ when z (λ _. after (plain_effect (fields (get_or t (base + p) 0)) p cs) (plain x t base len) p (suc x) cs) (out Ended p (suc x) cs)
      go true l again = rw (same_frame p (ltb-true p len l)) (rests (plain_effect (fields (get_or t (base + p) 0)) p cs) again)
      go false l again = refl

module _ (budget : ℕ) (t : List ℕ) (base len from : ℕ) (cs : List ℕ) (a : len ≤ 1024) (b : len ≤ length t) (c : base ≤ length t - len) where
  pub body_short : length (take ((base + len) - base) (drop base t)) ≤ 1024
  body_short =
      let e : (base + len) - base ≡ len = omega arith in
      rw e (omega (arith, same_length t base len (omega arith)))

  pub plain_runs : (o : Out) → 256 ≤ length cs → o ≡ plain budget (take ((base + len) - base) (drop base t)) 0 (length (take ((base + len) - base) (drop base t))) from cs → o ≡ run_plain budget t base len from cs
  unfolding run_plain
  plain_runs o d q =
      let e : (base + len) - base ≡ len = omega arith in
      let g : o ≡ plain budget (take len (drop base t)) 0 len from cs = rw (e, same_length t base len (omega arith)) at q in
      rw (le-leb (base + len) (length t) (omega arith), le-leb len 1024 a, le-leb 256 (length cs) d) (g ∙ in_body t base len (omega arith) budget from cs)

pub ruleset able_laws = (plain_long, plain_short, plain_past, plain_narrow, body_short, plain_runs)
