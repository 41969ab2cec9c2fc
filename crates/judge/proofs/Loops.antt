-- The judge's walk over a table, as the code's loops have it: what is left from a line on gives the whole's answer. Assumes nothing.
use Prim.Native.Nat.{ℕ, zero, suc, ◌+◌, ◌-◌, ◌≤◌, ◌<◌}
use mathlib.Core.Path.{◌≡◌, refl, sym, ap, ◌∙◌}
use mathlib.Core.Bool.{Bool, true, false, not}
use mathlib.Core.List.{List}
use native.Mathlib.Omega.{arith}
use native.Mathlib.Numerals.{add-one}
use borrow.Author.Tests.{not-true, not-false, lt-leb, le-leb}
use lib.ListN.{length, get_or, take, drop, length-take}
use lib.Seq.{get_or-take, get_or-drop}
use Rattle.std.specs.Prelude.{Result, Ok, Err, ⊤, if◌then◌else◌}
use Rattle.frame.specs.Fields.{fields}
use Rattle.frame.specs.Fault.{instruction_fault, fault_number}
use Rattle.frame.specs.declared.Frame.{Frame}
use Rattle.frame.specs.declared.Counts.{Counts}
use Rattle.frame.specs.declared.Kind.{Kind}
use Rattle.frame.specs.declared.Fault.{Fault}
use Rattle.frame.specs.declared.Fault.TheVariants.{Op as BadOp, Field as BadField}
use Rattle.image.specs.declared.Refusal.{Refusal}
use Rattle.image.specs.declared.Refusal.TheVariants.{Op, Field, Short}
use Rattle.image.specs.Limits.{most_instructions}
use Rattle.image.specs.Layout.{frame, counts_of, counts, bodies, len, lengths, first, due, kind_of}
use Rattle.image.specs.Judge.{Said, say, said, header_fits, body_fits, header_fault, body_fault, fault, ending, rest, look, judged}
use Rattle.image.proofs.Walk.{whole, rest_fine, rest_fault, rest_end, first_grows, first_next, due_above, fault_header, fault_body, fault_instruction, fault_past, ends_short, ends_extra, ends_done}
use Rattle.judge.specs.Steps.{Passed, Begun, Headed, Stands}

-- past the last due frame
module _ (fs : List ℕ) where
  pub look_past : (i n : ℕ) → due fs ≤ i → look fs i n ≡ ending fs
  unfolding look
  look_past i zero h = refl
  look_past i (suc n) h = rw (fault_past fs i h) (look_past (suc i) n (omega arith))

  pub rest_past : (i : ℕ) → due fs ≤ i → rest fs i ≡ ending fs
  unfolding rest
  rest_past i h = look_past i (length fs - i) h

-- a turn of the loop over the instructions of body k
module _ (fs : List ℕ) (c : Counts) (k n at line : ℕ) (s : Stands fs c k n at) (a : at ≤ line) (e : rest fs at ≡ rest fs line) where
  past : at + n ≡ first fs (suc k)
  past = rw (s.begins, s.long) (sym (first_next fs k))

  shorter : line < at + n → line ≡ length fs → length fs < due fs
  unfolding due
  shorter b m = omega (arith, past, first_grows fs (suc k) (bodies fs) s.one)

  pub body_short : (r : Refusal) → line < at + n → line ≤ length fs → (length fs ≤ line) × (r ≡ Short line) → Passed fs at n (Err r)
  body_short r b g h =
      let m : line ≡ length fs = omega arith in
      rw (h.1, e, m) (ends_short fs (shorter b m) ∙ sym (rest_end fs (length fs) (omega arith)))

  module _ (b : line < at + n) (g : line < length fs) (kind : Kind) (f : Frame) (r : Result ⊤ Fault) (q : kind ≡ kind_of c k) (d : f ≡ fields (get_or fs line 0)) (v : fault_number r ≡ instruction_fault c kind n f) where
    the_fault : fault_number r ≡ fault fs line
    the_fault =
        v
        ∙ rw (q, d, s.counted, s.long)
        (sym (fault_instruction fs line k s.one (omega (arith, s.begins)) (omega (arith, past))))

    pub body_op : r ≡ Err BadOp → said (Err (Op line)) ≡ rest fs at
    body_op h = rw e (rest_fault fs line 3 g (sym (the_fault) ∙ ap fault_number h))

    pub body_field : r ≡ Err BadField → said (Err (Field line)) ≡ rest fs at
    body_field h = rw e (rest_fault fs line 4 g (sym (the_fault) ∙ ap fault_number h))

    pub body_fine : (x : ⊤) → r ≡ Ok x → rest fs at ≡ rest fs (line + 1)
    body_fine x h = e ∙ rest_fine fs line g (sym (the_fault) ∙ ap fault_number h)

pub ruleset body_laws = (body_short, body_op, body_field, body_fine)

-- a turn of the loop over the bodies, whose instructions begin at the line s
module _ (fs : List ℕ) (c : Counts) (n : ℕ) (h : Headed fs c n) where
  pub bodies_begin : 1 + n ≡ first fs 0
  unfolding first lengths
  bodies_begin = omega (arith, h.all)

  -- the heads are lent as a slice of their own
  module _ (k line : ℕ) (f : Frame) (l : k < length (take (1 + n - 1) (drop 1 fs))) (e : line ≡ first fs k) (d : f ≡ fields (get_or (take (1 + n - 1) (drop 1 fs)) k 0)) where
    below_all : k < n
    below_all = omega (arith, length-take (1 + n - 1) (drop 1 fs))

    the_head : f ≡ fields (get_or fs (k + 1) 0)
    the_head =
        let m : 1 + k ≡ k + 1 = omega arith in
        d ∙ ap fields (get_or-take (1 + n - 1) (drop 1 fs) k 0 (omega (arith, below_all)) ∙ get_or-drop 1 fs k 0 ∙ ap (λ (i : ℕ). get_or fs i 0) m)

    pub body_stands : line ≤ length fs → Stands fs c k f.imm line
    unfolding len
    body_stands t =
        record { counted = h.counted; one = omega (arith, h.all, below_all); long = rw the_head; begins = e; there = t }

    pub body_next : line + f.imm ≡ first fs (k + 1)
    unfolding len
    body_next = rw (add-one, first_next, ← e, the_head)

  module _ (k line s : ℕ) (a : k ≤ n) (b : n ≤ k) (e : line ≡ first fs k) (q : rest fs s ≡ rest fs line) where
    at_due : line ≡ due fs
    unfolding due
    at_due =
        let m : k ≡ bodies fs = omega (arith, h.all) in
        e ∙ ap (first fs) m

    pub table_extra : line < length fs → say 7 line ≡ rest fs s
    table_extra g =
        let m : due fs < length fs = omega (arith, at_due) in
        rw (q, at_due) (ends_extra fs m ∙ sym (rest_past fs (due fs) (omega arith)))

    pub table_done : length fs ≤ line → line ≤ length fs → say 0 line ≡ rest fs s
    table_done g t =
        let m : line ≡ length fs = omega arith in
        rw (q, m) (ends_done fs (sym at_due ∙ m) ∙ sym (rest_end fs (length fs) (omega arith)))

pub ruleset table_laws = (bodies_begin, body_stands, body_next, table_extra, table_done)

-- a turn of the loop over the body frames
pub lengths_none : (fs : List ℕ) → 0 ≡ lengths fs 0
unfolding lengths
lengths_none fs = refl

module _ (fs : List ℕ) (c : Counts) (k : ℕ) (b : Begun fs c) (q : rest fs 1 ≡ rest fs (k + 1)) (g : k < 1 + c.threads + c.updates) where
  below : k < bodies fs
  unfolding bodies
  below = rw b.counted at g

  pub heads_short : length fs ≤ k + 1 → k + 1 ≤ length fs → say 6 (k + 1) ≡ rest fs 1
  heads_short h t =
      let m : k + 1 ≡ length fs = omega arith in
      let d : length fs < due fs = omega (arith, due_above fs, below) in
      rw (q, m) (ends_short fs d ∙ sym (rest_end fs (length fs) (omega arith)))

  module _ (f : Frame) (t : ℕ) (h : k + 1 < length fs) (d : f ≡ fields (get_or fs (k + 1) 0)) where
    pub heads_bad : (v : Bool) → v ≡ body_fits f → not v ≡ true → say 3 (k + 1) ≡ rest fs 1
    unfolding body_fault
    heads_bad v e z = rw q (rest_fault fs (k + 1) 2 h (fault_body fs k below ∙ rw (← d, ← e, not-true v z)))

    pub heads_sum : t ≡ lengths fs k → t + f.imm ≡ lengths fs (k + 1)
    unfolding lengths len
    heads_sum e = rw (add-one k, e, d)

    pub heads_long : (v : Bool) → v ≡ body_fits f → not v ≡ false → t ≡ lengths fs k → most_instructions < t + f.imm → say 3 (k + 1) ≡ rest fs 1
    unfolding body_fault
    heads_long v e z s l =
        let m : most_instructions < lengths fs (suc k) = omega (arith, heads_sum s, ap (lengths fs) (add-one k)) in
        rw q (rest_fault fs (k + 1) 2 h (fault_body fs k below ∙ rw (← d, ← e, not-false v z, lt-leb (lengths fs (suc k)) most_instructions m)))

    pub heads_fine : (v : Bool) → v ≡ body_fits f → not v ≡ false → t ≡ lengths fs k → t + f.imm ≤ most_instructions → rest fs 1 ≡ rest fs (k + 1 + 1)
    unfolding body_fault
    heads_fine v e z s l =
        let m : lengths fs (suc k) ≤ most_instructions = omega (arith, heads_sum s, ap (lengths fs) (add-one k)) in
        q ∙ rest_fine fs (k + 1) h (fault_body fs k below ∙ rw (← d, ← e, not-false v z, le-leb (lengths fs (suc k)) most_instructions m))

pub ruleset heads_laws = (lengths_none, heads_short, heads_bad, heads_sum, heads_long, heads_fine)

-- from one line to the next, and past the last body frame
module _ (fs : List ℕ) (c : Counts) (line t : ℕ) (b : Begun fs c) (i : 1 ≤ line) (q : rest fs 1 ≡ rest fs line) (e : t ≡ lengths fs (line - 1)) where
  pub heads_turn : (f : Frame) → line < 1 + (1 + c.threads + c.updates) → (line < length fs) × (f ≡ frame fs line) → true ≡ body_fits f → t + f.imm ≤ most_instructions → (t + f.imm ≡ lengths fs (line + 1 - 1)) × (t + f.imm ≤ most_instructions) × (line + 1 ≤ length fs) × (rest fs 1 ≡ rest fs (line + 1))
  heads_turn f g h v l =
      let m : line ≡ line - 1 + 1 = omega arith in
      let n : line + 1 - 1 ≡ line - 1 + 1 = omega arith in
      let o : line - 1 + 1 + 1 ≡ line + 1 = omega arith in
      let d : f ≡ fields (get_or fs (line - 1 + 1) 0) = h.1 ∙ ap (frame fs) m in
      let w : rest fs 1 ≡ rest fs (line - 1 + 1) = q ∙ ap (rest fs) m in
      (heads_sum fs c (line - 1) b w (omega arith) f t (omega arith) d e ∙ ap (lengths fs) (sym n), l, omega arith, heads_fine fs c (line - 1) b w (omega arith) f t (omega arith) d true v refl e l ∙ ap (rest fs) o)

  pub heads_done : (n : ℕ) → n ≡ 1 + c.threads + c.updates → 1 + n ≤ line → line ≤ 1 + n → t ≤ most_instructions → line ≤ length fs → Headed fs c n
  unfolding bodies
  heads_done n a l m h g =
      let r : n ≡ line - 1 = omega arith in
      record { counted = b.counted; all = rw (a, b.counted); there = omega arith; few = rw (r, ← e) h }

-- the header
module _ (fs : List ℕ) where
  pub judge_none : length fs ≡ 0 → say 6 0 ≡ judged fs
  judge_none e =
      rw (whole fs, rest_end fs 0 (omega arith)) (rw e at (ends_short fs (omega (arith, due_above fs))))

  module _ (h : Frame) (v : Bool) (g : length fs ≡ 0 → ⊥) (d : h ≡ fields (get_or fs 0 0)) (e : v ≡ header_fits h) where
    the_header : {w : Bool} → v ≡ w → fault fs 0 ≡ (if w then 0 else 2)
    unfolding header_fault
    the_header z = fault_header fs ∙ rw (← d, ← e, z)

    pub judge_header : not v ≡ true → say 2 0 ≡ judged fs
    judge_header z = rw (whole fs) (rest_fault fs 0 1 (omega arith) (the_header (not-true v z)))

    pub judge_begun : (c : Counts) → c ≡ counts_of h → Begun fs c
    unfolding counts
    judge_begun c q = record { some = omega arith; counted = rw (q, d) }

    pub judge_rest : (a : Said) → not v ≡ false → a ≡ rest fs 1 → a ≡ judged fs
    judge_rest a z q = rw (whole fs) (q ∙ sym (rest_fine fs 0 (omega arith) (the_header (not-false v z))))

pub ruleset judge_laws = (judge_none, judge_header, judge_begun, judge_rest)
