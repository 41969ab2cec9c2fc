-- A run of an accepted table is the definition's run. Assumes nothing.
use Prim.Native.Nat.{ℕ, ◌+◌, ◌*◌, ◌<◌, ◌≤◌}
use mathlib.Core.Path.{◌≡◌, ◌∙◌}
use mathlib.Core.List.{List, ◌++◌}
use native.Mathlib.Omega.{arith}
use lib.ListN.{length, get_or, drop, length-drop, replicate}
use Rattle.frame.specs.Fields.{fields}
use Rattle.frame.specs.declared.Frame.{Frame}
use Rattle.image.specs.Layout.{counts, bodies}
use Rattle.image.specs.Judge.{judged}
use Rattle.kernel.specs.Design.{cells}
use Rattle.kernel.specs.Machine.{Job, job_of}
use Rattle.kernel.specs.Run.{Outcome, runs}
use Rattle.turns.specs.Stands.{Firsts}
use Rattle.turns.specs.Code.{turns, told, started, first_lists, zeroed}
use Rattle.turns.proofs.Turns.{Given}
use Rattle.turns.proofs.Ends.{told_is, first_ran_lem}
use Rattle.run.proofs.Ends.{zeroed_is, header}

module _ (t : List ℕ) (good : (judged t).number ≡ 0) (f : Frame) (e : f ≡ fields (get_or t 0 0)) where
  pub accepted_run : (ch ins lent fs cs : List ℕ) (budget : ℕ) (o : Outcome) → length ch ≤ 4096 → 256 ≤ length lent → budget < 4294967296 → Firsts t (1 + f.d + f.b + 1) fs → cs ≡ zeroed f.imm lent
      → o ≡ told budget (turns t ch ins fs f.d (8 * (budget + length ch) + 1) (started t fs f.d budget (first_lists f.d f.a) (replicate (1 + f.d + f.b) 0) cs))
      → o ≡ runs (job_of t ch ins budget) lent
  unfolding bodies counts
  accepted_run ch ins lent fs cs budget o short room small lines z q =
      let j : Job = job_of t ch ins budget in
      let c : cells t ≤ 256 = (header t good f e).cells in
      let l = length-drop (cells t) lent in
      let g : Given j (drop (cells t) lent) fs = record { good = good; lines = λ k h. rw e at lines.lines k (omega arith); room = omega arith } in
      let zs : cs ≡ replicate (cells t) 0 ++ drop (cells t) lent = z ∙ rw e (zeroed_is (cells t) lent (omega arith)) in
      let r = first_ran_lem j (drop (cells t) lent) fs g in
      rw (zs, e) at q ∙ told_is j lent fs g r.more _ r.stands (8 * (budget + length ch) + 1) (omega arith) small short
