-- Where the plain instructions are left, one is due: its line lies in the table.
use Prim.Native.Nat.{ℕ, zero, suc, ◌+◌, ◌≤◌, ◌<◌}
use Rattle.std.specs.Prelude.{◌≡◌, Bool, leb, get_or, set}
use Rattle.std.proofs.Math.Path.{refl}
use Rattle.std.proofs.Common.{sym, ap, ◌∙◌}
use Rattle.std.proofs.Math.Bool.{true, false}
use mathlib.Core.List.{List}
use native.Mathlib.Omega.{arith}
use borrow.Author.Tests.{ltb-true, leb-true}
use Rattle.std.proofs.Math.Dec.{ltb}
use Rattle.std.proofs.Math.ListN.{length}
use Rattle.laws.specs.Choice.{and_left, and_right}
use Rattle.frame.specs.Fields.{fields}
use Rattle.ending.specs.declared.Ending.{Ending}
use Rattle.ending.specs.declared.Ending.TheVariants.{UnknownOp, NoBudgetLeft}
use Rattle.effect.specs.declared.Eff.{Eff}
use Rattle.effect.specs.declared.Eff.TheVariants.{Put, Next, Go, Stop, Leave}
use Rattle.plain.specs.declared.End.TheVariants.{Ended, Left, Stopped}
use Rattle.plain.specs.Plain.{Out, out, when, after, plain_effect, plain, able, run_plain}

unlike : {A : Type 0} → Ended ≡ Left → A
unlike e =
    let z : ◌≡◌ {A = ℕ} 0 1 = cc in
    absurd (omega arith)

unlike_stop : {A : Type 0} (n : Ending) → Stopped n ≡ Left → A
unlike_stop n e =
    let z : ◌≡◌ {A = ℕ} 0 1 = cc in
    absurd (omega arith)

module _ (t : List ℕ) (base len : ℕ) where
  left_due : (x p : ℕ) (cs : List ℕ) → (plain x t base len p cs).ran.end ≡ Left → (plain x t base len p cs).ran.place < len
  unfolding plain
  left_due zero p cs = go (ltb p len) refl
    where
      go : (z : Bool) → ltb p len ≡ z → (when z (λ _. out (Stopped NoBudgetLeft) p 0 cs) (out Ended p 0 cs)).ran.end ≡ Left → (when z (λ _. out (Stopped NoBudgetLeft) p 0 cs) (out Ended p 0 cs)).ran.place < len
      go true h e = unlike_stop NoBudgetLeft e
      go false h e = unlike e
  left_due (suc x) p cs = go (ltb p len) refl (λ q ds. left_due x q ds)
    where
      by : p < len → (f : Eff) → ((q : ℕ) (ds : List ℕ) → (plain x t base len q ds).ran.end ≡ Left → (plain x t base len q ds).ran.place < len) → (after f (plain x t base len) p (suc x) cs).ran.end ≡ Left → (after f (plain x t base len) p (suc x) cs).ran.place < len
      by h (Put d v) again e = again (p + 1) (set cs d v) e
      by h Next again e = again (p + 1) cs e
      by h (Go q) again e = again q cs e
      by h (Stop n) again e = unlike_stop n e
      by h Leave again e = h

      go : (z : Bool) → ltb p len ≡ z → ((q : ℕ) (ds : List ℕ) → (plain x t base len q ds).ran.end ≡ Left → (plain x t base len q ds).ran.place < len) → (when z (λ _. after (plain_effect (fields (get_or t (base + p) 0)) p cs) (plain x t base len) p (suc x) cs) (out Ended p (suc x) cs)).ran.end ≡ Left → (when z (λ _. after (plain_effect (fields (get_or t (base + p) 0)) p cs) (plain x t base len) p (suc x) cs) (out Ended p (suc x) cs)).ran.place < len
      go true h again e = by (ltb-true p len h) (plain_effect (fields (get_or t (base + p) 0)) p cs) again e
      go false h again e = unlike e

  -- an instruction that is left stands in the table, at a place that a body can have
  pub record Inside (p : ℕ) : Type 0 where
    pub line : base + p < length t
    pub place : p < 1024

  pub left_inside : (x p : ℕ) (cs : List ℕ) (o : Out) → o ≡ run_plain x t base len p cs → o.ran.end ≡ Left → Inside o.ran.place
  unfolding run_plain
  left_inside x p cs o e q = go (able t base len cs) refl (e)
    where
      go : (z : Bool) → able t base len cs ≡ z → o ≡ when z (λ _. plain x t base len p cs) (out (Stopped UnknownOp) p x cs) → Inside o.ran.place
      go true h f =
          let d : o.ran.place < len = rw f (left_due x p cs (ap (λ (y : Out). y.ran.end) (sym f) ∙ q)) in
          let a : base + len ≤ length t = leb-true (base + len) (length t) (and_left (leb (base + len) (length t)) _ h) in
          let b : len ≤ 1024 = leb-true len 1024 (and_left (leb len 1024) (leb 256 (length cs)) (and_right (leb (base + len) (length t)) _ h)) in
          record { line = omega arith; place = omega arith }
      go false h f = unlike_stop UnknownOp (ap (λ (y : Out). y.ran.end) (sym f) ∙ q)
