-- What is in the sets that the phases make. Assumes nothing.
use Rattle.std.specs.Prelude.{ℕ, zero, suc, ◌<◌, ◌≡◌, refl, Bool, true, false, not, ◌&&◌, ◌||◌, List, [], ◌∷◌, length, get_or, set, eqb, ltb, if◌then◌else◌}
use Rattle.std.proofs.Common.{ap, ◌∙◌, arith, length-set, get_or-set_other, lt-ltb, le-ltb, eqb-true}
use Rattle.std.proofs.lemmas.Bool.{eqb-false}
use Rattle.sets.specs.Sets.{has, minus}
use Rattle.sets.specs.Laws.{has_minus}
use Rattle.kernel.specs.Search.{any}
use Rattle.dues.specs.Laws.{before_next}
use Rattle.phases.specs.Phases.{freed_to, cleared_to}

neither : (x a w : Bool) → (x && not a) && not w ≡ x && not (w || a)
neither false a w = refl
neither true true true = refl
neither true false true = refl
neither true true false = refl
neither true false false = refl

all_of : (x : Bool) → x ≡ x && true
all_of true = refl
all_of false = refl

-- a thread still waits where it waited, and for none of the first n events that are in the set
pub freed_at : (es : ℕ) (ws : List ℕ) (x n i : ℕ) → i < 32 → has (freed_to es ws x n) i ≡ (has x i && not (any (λ e. has es e && has (get_or ws e 0) i) n))
unfolding freed_to any
freed_at es ws x zero i l = all_of (has x i)
freed_at es ws x (suc n) i l = go (has es n) (freed_at es ws x n i l)
  where
    rest : Bool
    rest = any (λ e. has es e && has (get_or ws e 0) i) n

    go : (b : Bool) → has (freed_to es ws x n) i ≡ (has x i && not rest) → has (if b then minus (freed_to es ws x n) (get_or ws n 0) else freed_to es ws x n) i ≡ (has x i && not (b && has (get_or ws n 0) i || rest))
    go true h =
        has_minus (freed_to es ws x n) (get_or ws n 0) i l ∙ ap (λ (z : Bool). z && not (has (get_or ws n 0) i)) h
        ∙ neither (has x i) rest (has (get_or ws n 0) i)
    go false h = h

pub cleared_length : (es n : ℕ) (ws : List ℕ) → length (cleared_to es n ws) ≡ length ws
unfolding cleared_to
cleared_length es zero ws = refl
cleared_length es (suc n) ws = go (has es n) (cleared_length es n ws)
  where
    go : (b : Bool) → length (cleared_to es n ws) ≡ length ws → length (if b then set (cleared_to es n ws) n 0 else cleared_to es n ws) ≡ length ws
    go true h = length-set (cleared_to es n ws) n 0 ∙ h
    go false h = h

emptied : (l : List ℕ) (i : ℕ) → get_or (set l i 0) i 0 ≡ 0
emptied [] i = refl
emptied (x ∷ l) zero = refl
emptied (x ∷ l) (suc i) = emptied l i

-- no thread waits for one of the first n events that are in the set; what waits for the others is as it was
pub cleared_at : (es n : ℕ) (ws : List ℕ) (e : ℕ) → get_or (cleared_to es n ws) e 0 ≡ (if ltb e n && has es e then 0 else get_or ws e 0)
unfolding cleared_to
cleared_at es zero ws e = rw (le-ltb e 0 (omega arith))
cleared_at es (suc n) ws e = go (eqb e n) refl (cleared_at es n ws)
  where
    Before : ℕ → Type 0
    Before k = get_or (cleared_to es n ws) k 0 ≡ (if ltb k n && has es k then 0 else get_or ws k 0)

    here : (b : Bool) → Before n → get_or (if b then set (cleared_to es n ws) n 0 else cleared_to es n ws) n 0 ≡ (if b then 0 else get_or ws n 0)
    here true h = emptied (cleared_to es n ws) n
    here false h = rw (h, le-ltb n n (omega arith))

    other : (b : Bool) → (e ≡ n → ⊥) → get_or (if b then set (cleared_to es n ws) n 0 else cleared_to es n ws) e 0 ≡ get_or (cleared_to es n ws) e 0
    other true q = get_or-set_other (cleared_to es n ws) n e 0 0 q
    other false q = refl

    go : (b : Bool) → eqb e n ≡ b → ((k : ℕ) → Before k) → get_or (if has es n then set (cleared_to es n ws) n 0 else cleared_to es n ws) e 0 ≡ (if ltb e (suc n) && has es e then 0 else get_or ws e 0)
    go true q h = rw (eqb-true e n q, lt-ltb n (suc n) (omega arith)) (here (has es n) (h n))
    go false q h = rw (before_next e n (eqb-false e n q)) (other (has es n) (eqb-false e n q) ∙ h e)
