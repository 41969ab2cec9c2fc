-- Reading what was written gives the table, and writing what was read gives the bytes. Assumes nothing.
use Prim.Native.Nat.{ℕ, zero, suc, ◌+◌, ◌*◌, ◌^◌, ◌≤◌, ◌<◌}
use mathlib.Core.Path.{◌≡◌, refl, sym, ap, subst, ◌∙◌}
use mathlib.Core.Bool.{Bool, true, false}
use mathlib.Core.List.{List, [], ◌∷◌, ◌++◌, append_assoc, append-nil}
use native.Mathlib.Omega.{arith}
use borrow.Author.Tests.{ltb-false, eqb-true, eqb-false, le-ltb, eq-eqb}
use lib.Dec.{eqb, ltb}
use lib.ListN.{length, get_or, take, drop, length-append, length-drop, get_or-append}
use lib.Seq.{get_or_at, get_or-append-add, get_or-drop, take-suc, take-add, drop-drop, take_at, take_all}
use Rattle.std.specs.Prelude.{if◌then◌else◌, Option, None, Some}
use Rattle.laws.specs.Lists.{over}
use Rattle.hexadecimal.specs.Hex.{digits, value, number_at, hex}
use Rattle.hexadecimal.specs.Laws.{length_hex, hex_read, hex_back, Reads, number_reads, reads_number}
use Rattle.image.specs.Limits.{most_lines}
use Rattle.image.specs.Judge.{Said, say, judged}
use Rattle.image.proofs.Accepted.{accepted_has}
use Rattle.lines.specs.Text.{line_at, before, frames_from, frames, more, settled, outcome, reading, line, text, writing}
use Rattle.lines.specs.Both.{Words, Undo}
use Rattle.lines.proofs.Lines.{line_short, line_there}
use Rattle.lines.proofs.Texts.{length_line, length_text}

module _ (bs : List ℕ) (at : ℕ) where
  by_end : (f : ℕ) (b : Bool) → eqb (get_or bs (at + 16) 0) 0x0a ≡ b → (if b then number_at bs at 16 else None) ≡ Some f → (get_or bs (at + 16) 0 ≡ 0x0a) × Reads bs at 16 f
  by_end f true p e = (eqb-true (get_or bs (at + 16) 0) 0x0a p, number_reads bs at 16 f e)
  by_end f false p e =
      let z : ◌≡◌ {A = ℕ} 0 1 = cc in
      absurd (omega arith)

  -- the line of a frame that was read
  line_back : (f : ℕ) → line_at bs at ≡ Some f → line f ≡ take 17 (drop at bs)
  unfolding line_at line
  line_back f e =
      let t : at + 17 ≤ length bs = line_there bs at f (line_at bs at) refl e in
      let r : (get_or bs (at + 16) 0 ≡ 0x0a) × Reads bs at 16 f = by_end f (eqb (get_or bs (at + 16) 0) 0x0a) refl e in
      let l : 16 < length (drop at bs) = omega (arith, length-drop at bs) in
      let g : get_or (drop at bs) 16 0 ≡ 0x0a = get_or-drop at bs 16 0 ∙ r.0 in
      rw (← r.1.number, hex_back bs at 16 r.1.good (omega arith), take-suc (drop at bs) 16 0 l, g)

-- a line in a text, read
line_read : (p t : List ℕ) (f : ℕ) → f < 2 ^ 64 → line_at (p ++ (line f ++ t)) (length p) ≡ Some f
unfolding line_at line
line_read p t f h =
    let bs : List ℕ = p ++ ((hex 16 f ++ 10 ∷ []) ++ t) in
    let k : length (hex 16 f) ≡ 16 = length_hex 16 f in
    let at_line : (j : ℕ) → get_or bs (length p + j) 0 ≡ get_or (hex 16 f ++ (10 ∷ t)) j 0 = λ j. get_or-append-add p ((hex 16 f ++ 10 ∷ []) ++ t) j 0 ∙ ap (λ (l : List ℕ). get_or l j 0) (append_assoc (hex 16 f) (10 ∷ []) t) in
    let r : (digits bs (length p) 16 ≡ true) × (value bs (length p) 16 ≡ f) = hex_read bs (length p) 16 f (λ j i. at_line j ∙ get_or-append (hex 16 f) (10 ∷ t) 0 j (omega arith)) h in
    let z : get_or bs (length p + 16) 0 ≡ 10 = at_line 16 ∙ get_or_at (hex 16 f) 10 t 0 16 k in
    let m : length p + 16 ≤ length bs = simp (length-append, length_hex) (omega arith) in
    rw (eq-eqb _ 10 z) (reads_number bs (length p) 16 f (omega arith) (record { there = m; good = r.0; number = r.1 }))

frames_none : (bs : List ℕ) (i n : ℕ) → length bs ≡ 17 * i → frames_from bs i n ≡ []
unfolding frames_from
frames_none bs i zero h = refl
frames_none bs i (suc n) h = rw (← line_short bs (17 * i) (omega arith) (omega arith))

frames_read : (fs p : List ℕ) (i n : ℕ) → Words fs → length p ≡ 17 * i → length fs ≤ n → frames_from (p ++ text fs) i n ≡ fs
unfolding text frames_from
frames_read [] p i n w h l = frames_none (p ++ []) i n (ap length (append-nil p) ∙ h)
frames_read (f ∷ fs) p i zero w h l = absurd (omega arith)
frames_read (f ∷ fs) p i (suc n) w h l =
    let a : p ++ (line f ++ text fs) ≡ (p ++ line f) ++ text fs = sym (append_assoc p (line f) (text fs)) in
    let k : length (p ++ line f) ≡ 17 * suc i = length-append p (line f) ∙ omega (arith, length_line f) in
    rw
    (← h, line_read p (text fs) f w.0)
    (subst (λ (bs : List ℕ). before (Some f) (frames_from bs (suc i) n) ≡ f ∷ fs) (sym a)
    (ap (λ (l : List ℕ). f ∷ l) (frames_read fs (p ++ line f) (suc i) n w.1 k (omega arith))))

-- the text of the frames that were read
text_by : (bs : List ℕ) (i : ℕ) (l : Option ℕ) (r : List ℕ) → line_at bs (17 * i) ≡ l → text r ≡ take (17 * length r) (drop (17 * suc i) bs) → text (before l r) ≡ take (17 * length (before l r)) (drop (17 * i) bs)
unfolding text
text_by bs i None r e h = refl
text_by bs i (Some f) r e h =
    let m : 17 * suc (length r) ≡ 17 + 17 * length r = omega arith in
    let k : 17 * i + 17 ≡ 17 * suc i = omega arith in
    rw (m, take-add, line_back bs (17 * i) f e, drop-drop, k, h)

pub text_back : (bs : List ℕ) (i n : ℕ) → text (frames_from bs i n) ≡ take (17 * length (frames_from bs i n)) (drop (17 * i) bs)
unfolding frames_from text
text_back bs i zero = refl
text_back bs i (suc n) = text_by bs i (line_at bs (17 * i)) (frames_from bs (suc i) n) refl (text_back bs (suc i) n)

-- the text of a judged table reads as that table
frames_text : (fs : List ℕ) → Words fs → frames (text fs) ≡ fs
unfolding frames
frames_text fs w = frames_read fs [] 0 (length (text fs)) w refl (omega (arith, length_text fs))

none_left : (fs : List ℕ) → Words fs → more (text fs) ≡ false
unfolding more
none_left fs w = rw (frames_text fs w) (le-ltb (17 * length fs) (length (text fs)) (omega (arith, length_text fs)))

pub text_read : (fs table : List ℕ) → Words fs → (judged fs).number ≡ 0 → most_lines ≤ length table → reading (text fs) table ≡ outcome (judged fs) (over fs table)
unfolding reading settled
text_read fs table w a h =
    rw (le-ltb (length table) most_lines h, none_left fs w, frames_text fs w, eq-eqb (judged fs).number 0 a)

-- what a write that was done says and leaves
module _ (fs bytes : List ℕ) where
  by_writing : (g r : Bool) → eqb (judged fs).number 0 ≡ g → ltb (length bytes) (17 * length fs) ≡ r → (n : ℕ) → (if g then (if r then outcome (say 8 0) bytes else outcome (say 0 (17 * length fs)) (over (text fs) bytes)) else outcome (judged fs) bytes).says ≡ say 0 n → ((judged fs).number ≡ 0) × (17 * length fs ≡ n) × ((if g then (if r then outcome (say 8 0) bytes else outcome (say 0 (17 * length fs)) (over (text fs) bytes)) else outcome (judged fs) bytes).buffer ≡ over (text fs) bytes)
  by_writing true true p q n e =
      let z : ◌≡◌ {A = ℕ} 8 0 = ap (λ (s : Said). s.number) e in
      absurd (omega arith)
  by_writing true false p q n e = (eqb-true (judged fs).number 0 p, ap (λ (s : Said). s.line) e, refl)
  by_writing false r p q n e = absurd (eqb-false (judged fs).number 0 p (ap (λ (s : Said). s.number) e))

  wrote : (n : ℕ) → (writing fs bytes).says ≡ say 0 n → ((judged fs).number ≡ 0) × (17 * length fs ≡ n) × ((writing fs bytes).buffer ≡ over (text fs) bytes)
  unfolding writing
  wrote n e = by_writing (eqb (judged fs).number 0) (ltb (length bytes) (17 * length fs)) refl refl n e

-- Reading what was written gives the table.
written_read : (fs bytes table : List ℕ) (n : ℕ) → Words fs → (writing fs bytes).says ≡ say 0 n → most_lines ≤ length table → reading (take n (writing fs bytes).buffer) table ≡ outcome (judged fs) (over fs table)
written_read fs bytes table n w e h =
    let r : ((judged fs).number ≡ 0) × (17 * length fs ≡ n) × ((writing fs bytes).buffer ≡ over (text fs) bytes) = wrote fs bytes n e in
    let t : take n (over (text fs) bytes) ≡ text fs = take_at (text fs) _ n (length_text fs ∙ r.1) in
    rw (r.2, t) (text_read fs table w r.0 h)

-- bytes left make the answer a refusal
left_refuses : (s : Said) (z x : Bool) → eqb s.number 0 ≡ z → eqb s.number 6 ≡ x → (if z then say 7 s.line else (if x then say 1 s.line else s)).number ≡ 0 → ⊥
left_refuses s true x p q e = omega arith
left_refuses s false true p q e = omega arith
left_refuses s false false p q e = eqb-false s.number 0 p e

pub settled_good : (m : Bool) (s : Said) → (settled m s).number ≡ 0 → (m ≡ false) × (settled m s ≡ s)
unfolding settled
settled_good false s e = (refl, refl)
settled_good true s e = absurd (left_refuses s (eqb s.number 0) (eqb s.number 6) refl refl e)

-- a read that was done: all bytes are lines, the judge says 0, and the frames stand in the table
module _ (bytes table : List ℕ) where
  by_reading : (r g : Bool) → ltb (length table) most_lines ≡ r → eqb (settled (more bytes) (judged (frames bytes))).number 0 ≡ g → (n : ℕ) → (if r then outcome (say 8 0) table else outcome (settled (more bytes) (judged (frames bytes))) (if g then over (frames bytes) table else table)).says ≡ say 0 n → (settled (more bytes) (judged (frames bytes)) ≡ say 0 n) × ((if r then outcome (say 8 0) table else outcome (settled (more bytes) (judged (frames bytes))) (if g then over (frames bytes) table else table)).buffer ≡ over (frames bytes) table)
  by_reading true g p q n e =
      let z : ◌≡◌ {A = ℕ} 8 0 = ap (λ (s : Said). s.number) e in
      absurd (omega arith)
  by_reading false true p q n e = (e, refl)
  by_reading false false p q n e = absurd (eqb-false (settled (more bytes) (judged (frames bytes))).number 0 q (ap (λ (s : Said). s.number) e))

  did_read : (n : ℕ) → (reading bytes table).says ≡ say 0 n → (settled (more bytes) (judged (frames bytes)) ≡ say 0 n) × ((reading bytes table).buffer ≡ over (frames bytes) table)
  unfolding reading
  did_read n e = by_reading (ltb (length table) most_lines) (eqb (settled (more bytes) (judged (frames bytes))).number 0) refl refl n e

text_frames : (bs : List ℕ) → more bs ≡ false → text (frames bs) ≡ bs
unfolding more frames
text_frames bs e =
    let l : length bs ≤ 17 * length (frames_from bs 0 (length bs)) = ltb-false _ _ e in
    text_back bs 0 (length bs) ∙ take_all (17 * length (frames_from bs 0 (length bs))) (drop (17 * 0) bs) l

-- Writing what was read gives the bytes.
read_written : (bytes table out : List ℕ) (n : ℕ) → (reading bytes table).says ≡ say 0 n → length bytes ≤ length out → writing (take n (reading bytes table).buffer) out ≡ outcome (say 0 (length bytes)) (over bytes out)
unfolding writing
read_written bytes table out n e h =
    let r : (settled (more bytes) (judged (frames bytes)) ≡ say 0 n) × ((reading bytes table).buffer ≡ over (frames bytes) table) = did_read bytes table n e in
    let g : (more bytes ≡ false) × (settled (more bytes) (judged (frames bytes)) ≡ judged (frames bytes)) = settled_good (more bytes) (judged (frames bytes)) (ap (λ (s : Said). s.number) r.0) in
    let j : judged (frames bytes) ≡ say 0 n = sym g.1 ∙ r.0 in
    let a : (judged (frames bytes)).number ≡ 0 = ap (λ (s : Said). s.number) j in
    let c : length (frames bytes) ≡ n = sym (accepted_has (frames bytes) a).count ∙ ap (λ (s : Said). s.line) j in
    let t : take n (over (frames bytes) table) ≡ frames bytes = take_at (frames bytes) _ n c in
    let x : text (frames bytes) ≡ bytes = text_frames bytes g.0 in
    let k : 17 * length (frames bytes) ≡ length bytes = sym (length_text (frames bytes)) ∙ ap length x in
    rw (r.1, t, eq-eqb (judged (frames bytes)).number 0 a, k, le-ltb (length out) (length bytes) h, x)

pub undo : Undo
undo = record { written_read = written_read; read_written = read_written }
