-- The first m lines of a table, where the body frames are among them, have the faults that they have in the table. Assumes nothing.
use Prim.Native.Nat.{ℕ, zero, suc, ◌+◌, ◌-◌, ◌≤◌, ◌<◌}
use mathlib.Core.Path.{◌≡◌, refl, ap}
use mathlib.Core.Bool.{Bool, true, false}
use mathlib.Core.List.{List}
use native.Mathlib.Omega.{arith}
use borrow.Author.Tests.{leb-true}
use lib.Dec.{eqb, ltb, leb}
use lib.ListN.{take}
use lib.Seq.{get_or-take}
use Rattle.std.specs.Prelude.{if◌then◌else◌}
use Rattle.frame.specs.Fields.{fields}
use Rattle.frame.specs.Fault.{instruction_fault}
use Rattle.frame.specs.declared.Frame.{Frame}
use Rattle.image.specs.Layout.{frame, counts_of, counts, bodies, len, lengths, first, due, body_from, body_at, kind_of}
use Rattle.image.specs.Judge.{header_fault, body_fault, fault}

module _ (fs : List ℕ) (m : ℕ) (o : 0 < m) where
  same_frame : (i : ℕ) → i < m → frame (take m fs) i ≡ frame fs i
  same_frame i h = ap fields (get_or-take m fs i 0 h)

  same_counts : counts (take m fs) ≡ counts fs
  unfolding counts
  same_counts = ap counts_of (same_frame 0 o)

  same_bodies : bodies (take m fs) ≡ bodies fs
  unfolding bodies
  same_bodies = rw same_counts

  same_len : (k : ℕ) → k + 1 < m → len (take m fs) k ≡ len fs k
  unfolding len
  same_len k h = ap (λ (f : Frame). f.imm) (same_frame (k + 1) h)

  same_lengths : (k : ℕ) → k < m → lengths (take m fs) k ≡ lengths fs k
  unfolding lengths
  same_lengths zero h = refl
  same_lengths (suc k) h = rw (same_lengths k (omega arith), same_len k (omega arith))

  same_first : (k : ℕ) → k < m → first (take m fs) k ≡ first fs k
  unfolding first
  same_first k h = rw (same_bodies, same_lengths k h)

  same_body_from : (i k n : ℕ) → k + n < m → body_from (take m fs) i k n ≡ body_from fs i k n
  unfolding body_from
  same_body_from i k zero h = refl
  same_body_from i k (suc n) h = rw (same_first (suc k) (omega arith), same_body_from i (suc k) n (omega arith))

  module _ (b : bodies fs + 1 < m) where
    pub same_due : due (take m fs) ≡ due fs
    unfolding due
    same_due = rw same_bodies (same_first (bodies fs) (omega arith))

    low_body : (t : Bool) (k n x : ℕ) → x ≤ suc k + n → (if t then k else x) ≤ k + suc n
    low_body true k n x h = omega arith
    low_body false k n x h = omega arith

    body_low : (i k n : ℕ) → body_from fs i k n ≤ k + n
    unfolding body_from
    body_low i k zero = omega arith
    body_low i k (suc n) = low_body (ltb i (first fs (suc k))) k n (body_from fs i (suc k) n) (body_low i (suc k) n)

    same_body_fault : (i : ℕ) → i ≤ bodies fs → body_fault (take m fs) (i - 1) ≡ body_fault fs (i - 1)
    unfolding body_fault
    same_body_fault i h = rw (same_frame (i - 1 + 1) (omega arith), same_lengths (suc (i - 1)) (omega arith))

    by_part : (t : Bool) (i : ℕ) (x y z w : ℕ) → leb i (bodies fs) ≡ t → (i ≤ bodies fs → x ≡ y) → z ≡ w → ◌≡◌ {A = ℕ} (if t then x else z) (if t then y else w)
    by_part true i x y z w e f g = f (leb-true i (bodies fs) e)
    by_part false i x y z w e f g = g

    same_instr : (i : ℕ) → i < m → instruction_fault (counts (take m fs)) (kind_of (counts (take m fs)) (body_at (take m fs) i)) (len (take m fs) (body_at (take m fs) i)) (frame (take m fs) i) ≡ instruction_fault (counts fs) (kind_of (counts fs) (body_at fs i)) (len fs (body_at fs i)) (frame fs i)
    unfolding body_at
    same_instr i h =
        let l : body_from fs i 0 (bodies fs) ≤ 0 + bodies fs = body_low i 0 (bodies fs) in
        rw (same_counts, same_bodies, same_body_from i 0 (bodies fs) (omega arith), same_len (body_from fs i 0 (bodies fs)) (omega arith), same_frame i h)

    pub same_fault : (i : ℕ) → i < m → fault (take m fs) i ≡ fault fs i
    unfolding fault
    same_fault i h =
        rw (same_frame 0 o, same_bodies, same_due, same_instr i h)
        (ap (if◌then◌else◌ (eqb i 0) (header_fault (frame fs 0))) (by_part (leb i (bodies fs)) i _ _ _ _ refl (same_body_fault i) refl))
