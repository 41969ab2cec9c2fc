-- Lists as loops over slices make and read them.
use Rattle.std.specs.Prelude.{ℕ, zero, suc, ◌+◌, ◌≤◌, ◌<◌, ◌≡◌, List, [], ◌∷◌, ◌++◌, length, get_or, set, drop}
use Rattle.std.proofs.Common.{sym, ◌∙◌, arith, add-one, add-zero, drop-cons}
use Rattle.std.proofs.Math.ListN.{get_or-eq_default}
use Rattle.std.proofs.lemmas.List.Edits.{sets, sets-eq}
use Rattle.std.proofs.lemmas.List.{set_comm}
use Rattle.std.proofs.Math.Seq.{set_out, drop-nil}

-- `new` from the start of a buffer on, the rest of it untouched
abbrev pub over : List ℕ → List ℕ → List ℕ
over new old = new ++ drop (length new) old

pub drop_all : (xs : List ℕ) (i : ℕ) → length xs ≤ i → drop i xs ≡ []
drop_all [] i h = drop-nil i
drop_all (x ∷ xs) zero h = absurd (omega arith)
drop_all (x ∷ xs) (suc i) h = drop_all xs i (omega arith)

-- stores from the start on
pub stored : (new old : List ℕ) → length new ≤ length old → sets old 0 new ≡ over new old
stored new old h =
    let m : 0 + length new ≡ length new = omega arith in
    let k : 0 + length new ≤ length old = omega arith in
    rw m at (sets-eq new old 0 k)

-- stores from the last element on, and one list after the other
pub sets_snoc : (l s : List ℕ) (i d : ℕ) → sets l i (s ++ d ∷ []) ≡ sets (set l (i + length s) d) i s
sets_snoc l [] i d = rw add-zero
sets_snoc l (v ∷ s) i d =
    let m : suc i + length s ≡ i + suc (length s) = omega arith in
    let c : set (set l i v) (i + suc (length s)) d ≡ set (set l (i + suc (length s)) d) i v = set_comm l i (i + suc (length s)) v d (λ e. omega arith) in
    sets_snoc (set l i v) s (suc i) d ∙ rw (m, c)

pub sets_append : (s t l : List ℕ) (i : ℕ) → sets l i (s ++ t) ≡ sets (sets l i s) (i + length s) t
sets_append [] t l i = rw add-zero
sets_append (v ∷ s) t l i =
    let m : suc i + length s ≡ i + suc (length s) = omega arith in
    sets_append s t (set l i v) (suc i) ∙ rw m

-- a copying loop: what is left, from here, gives the whole
pub copy_turn : (l xs ys : List ℕ) (i : ℕ) → i < length xs → sets l i (drop i xs) ≡ ys → sets (set l i (get_or xs i 0)) (i + 1) (drop (i + 1) xs) ≡ ys
copy_turn l xs ys i h e = rw (add-one i) (rw (drop-cons xs i 0 h) at e)

pub copy_end : (l xs ys : List ℕ) (i : ℕ) → length xs ≤ i → sets l i (drop i xs) ≡ ys → l ≡ ys
copy_end l xs ys i h e = rw (drop_all xs i h) at e

-- a store past the end, and a load
pub set_past : {A : Type 0} (l : List A) (i : ℕ) (y : A) → length l ≤ i → l ≡ set l i y
set_past l i y h = sym (set_out l i y h)

pub none_past : (l : List ℕ) (i : ℕ) → length l ≤ i → 0 ≡ get_or l i 0
none_past l i h = sym (get_or-eq_default l 0 h)
