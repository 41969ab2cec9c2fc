-- The loops over the slices: one turn and the end of each. Assumes nothing.
use Prim.Native.Nat.{ℕ, zero, suc, ◌+◌, ◌≤◌, ◌<◌, min}
use mathlib.Core.Path.{◌≡◌, refl, sym, ap, ◌∙◌}
use mathlib.Core.List.{List, [], ◌∷◌, map}
use native.Mathlib.Nat.{le_of_suc-le-suc, not-suc-le-zero, suc-min-suc, add_comm}
use native.Mathlib.Numerals.{add-one}
use native.Mathlib.Omega.{arith}
use lib.ListN.{length, get_or, set}
use lib.Dec.{eqb, eqb-suc-zero}
use Rattle.std.proofs.Common.{Bool, cond}
use borrow.Author.Tests.{eq-eqb, ne_eqb}
use Rattle.sets.specs.Sets.{with}
use Rattle.kernel.specs.Search.{Found, none, found, lesser, least, sum}
use Rattle.kernel.specs.Kernel.{Due, never, delta, at}
use Rattle.kernel.specs.Pending.{time_of, is_time}
use Rattle.dues.specs.Codes.{last_time, for_nothing, moment_of, pend_of}
use Rattle.dues.specs.Dues.{Least, time_at, count_at, over_code, due_to}
use Rattle.dues.specs.Laws.{pend_low, pend_high, by_size}

at_end_lem : (A : Type 0) (f : ℕ → A) (x : A) (i n m : ℕ) → x ≡ f i → i ≤ n → n ≤ i → n ≡ m → x ≡ f m
at_end_lem A f x i n m e a b k = let z : i ≡ m = omega arith in e ∙ ap f z

-- Each element x becomes f x -----------------------------------------------------------------------------------

-- the first i elements are mapped, the rest is as it was
unfoldable pub map_to : (ℕ → ℕ) → ℕ → List ℕ → List ℕ
map_to f zero xs = xs
map_to f (suc i) [] = []
map_to f (suc i) (x ∷ xs) = f x ∷ map_to f i xs

module _ (f : ℕ → ℕ) where
  pub map_starts : (xs : List ℕ) → xs ≡ map_to f 0 xs
  unfolding map_to
  map_starts xs = refl

  -- element i is not yet mapped after i turns
  not_yet : (i : ℕ) (xs : List ℕ) → get_or (map_to f i xs) i 0 ≡ get_or xs i 0
  unfolding map_to
  not_yet zero xs = refl
  not_yet (suc i) [] = refl
  not_yet (suc i) (x ∷ xs) = not_yet i xs

  turn : (i : ℕ) (xs : List ℕ) → set (map_to f i xs) i (f (get_or xs i 0)) ≡ map_to f (suc i) xs
  unfolding map_to
  turn zero [] = refl
  turn zero (x ∷ xs) = refl
  turn (suc i) [] = refl
  turn (suc i) (x ∷ xs) = ap (λ l. f x ∷ l) (turn i xs)

  map_turn : (l xs : List ℕ) (i x : ℕ) → l ≡ map_to f i xs → x ≡ f (get_or l i 0) → set l i x ≡ map_to f (i + 1) xs
  map_turn l xs i x h e = rw (e, h, not_yet, add-one) (turn i xs)

  all : (i : ℕ) (xs : List ℕ) → length xs ≤ i → map_to f i xs ≡ map f xs
  unfolding map_to
  all zero [] h = refl
  all zero (x ∷ xs) h = absurd (not-suc-le-zero h)
  all (suc i) [] h = refl
  all (suc i) (x ∷ xs) h = ap (λ l. f x ∷ l) (all i xs (le_of_suc-le-suc h))

  pub map_end : (l xs : List ℕ) (i n : ℕ) → l ≡ map_to f i xs → n ≡ length xs → n ≤ i → l ≡ map f xs
  map_end l xs i n h e g = h ∙ all i xs (omega arith)

-- The numbers q are over ---------------------------------------------------------------------------------------

-- k is the slice after a turn: with the number of nothing stored, or what stood there
module _ (q : ℕ) (l k xs : List ℕ) (i : ℕ) (h : l ≡ map_to (over_code q) i xs) where
  held : get_or l i 0 ≡ get_or xs i 0
  held = ap (λ z. get_or z i 0) h ∙ not_yet (over_code q) i xs

  pub over_turn : get_or l i 0 ≡ q → k ≡ set l i for_nothing → k ≡ map_to (over_code q) (i + 1) xs
  unfolding over_code
  over_turn e f = f ∙ map_turn (over_code q) l xs i for_nothing h (rw (over_code, eq-eqb (get_or l i 0) q e))

  pub over_skip : (get_or l i 0 ≡ q → ⊥) → k ≡ set l i (get_or l i 0) → k ≡ map_to (over_code q) (i + 1) xs
  unfolding over_code
  over_skip e f = f ∙ map_turn (over_code q) l xs i (get_or l i 0) h (rw (over_code, ne_eqb (get_or l i 0) q e))

  pub due_turn : (s r t : ℕ) → s ≡ due_to q xs i → get_or l i 0 ≡ q → r ≡ with s i → t ≡ r → t ≡ due_to q xs (i + 1)
  unfolding due_to
  due_turn s r t g e d f = f ∙ d ∙ ap (λ n. with n i) g ∙ rw (add-one i, eq-eqb (get_or xs i 0) q (sym held ∙ e))

  pub due_skip : (s t : ℕ) → s ≡ due_to q xs i → (get_or l i 0 ≡ q → ⊥) → t ≡ s → t ≡ due_to q xs (i + 1)
  unfolding due_to
  due_skip s t g e f = f ∙ g ∙ rw (add-one i, ne_eqb (get_or xs i 0) q (λ z. e (held ∙ z)))

module _ (q : ℕ) (xs : List ℕ) where
  pub due_starts : 0 ≡ due_to q xs 0
  unfolding due_to
  due_starts = refl

pub ruleset due_laws = (map_starts, map_end, over_turn, over_skip, due_turn, due_skip, due_starts)

-- The least due time -------------------------------------------------------------------------------------------

timed : (t : ℕ) → suc t ≤ last_time → time_of (pend_of (suc t)) ≡ found t
unfolding moment_of
timed t h = rw (pend_low (suc t) h)

untimed : (c : ℕ) → last_time < c → time_of (pend_of c) ≡ none
untimed c h = rw (pend_high c h)

-- the lesser of two numbers stands for the lesser time, where neither is 0
module _ (a c : ℕ) where
  abbrev Lesser : ℕ → Type 0
  Lesser n = time_of (pend_of (suc n)) ≡ lesser (time_of (pend_of (suc c))) (time_of (pend_of (suc a)))

  lesser_left : a ≤ c → Lesser a
  lesser_left h =
      let m : min c a ≡ a = omega arith in
      by_size (Lesser a) last_time (suc c) (λ g. rw (timed c g, timed a (omega arith), m)) (λ g. rw (untimed (suc c) g))

  lesser_right : c < a → Lesser c
  lesser_right h =
      let m : min c a ≡ c = omega arith in
      by_size (Lesser c) last_time (suc a) (λ g. rw (timed c (omega arith), timed a g, m))
      (λ g. by_size (Lesser c) last_time (suc c) (λ f. rw (timed c f, untimed (suc a) g)) (λ f. rw (untimed (suc c) f, untimed (suc a) g)))

  lesser_time : time_of (pend_of (min (suc a) (suc c))) ≡ lesser (time_of (pend_of (suc c))) (time_of (pend_of (suc a)))
  lesser_time =
      rw (suc-min-suc a c)
      (by_size (Lesser (min a c)) c a (λ h. let m : min a c ≡ a = omega arith in rw m (lesser_left h))
      (λ h. let m : min a c ≡ c = omega arith in rw m (lesser_right h)))

lesser_of : (a c : ℕ) → 0 < a → 0 < c → time_of (pend_of (min a c)) ≡ lesser (time_of (pend_of c)) (time_of (pend_of a))
lesser_of zero c h g = absurd (not-suc-le-zero h)
lesser_of (suc a) zero h g = absurd (not-suc-le-zero g)
lesser_of (suc a) (suc c) h g = lesser_time a c

-- the delta phase is no time, and neither is nothing
no_delta : (c : ℕ) → (0 < over_code 0 c) × (time_of (pend_of (over_code 0 c)) ≡ time_of (pend_of c))
unfolding over_code pend_of moment_of
no_delta zero = (omega arith, refl)
no_delta (suc c) = rw (over_code, eqb-suc-zero c) (omega arith, refl)

module _ (cs : List ℕ) where
  pub least_starts : time_of (pend_of for_nothing) ≡ least (time_at cs) 0
  unfolding least pend_of
  least_starts = refl

  pub least_some : (i a d r : ℕ) → 0 < a → d ≡ over_code 0 (get_or cs i 0) → r ≡ min a d → 0 < r
  least_some i a d r h e k =
      let g : 0 < d = rw e (no_delta (get_or cs i 0)).0 in
      omega arith

  pub least_turn : (i a d r : ℕ) → 0 < a → d ≡ over_code 0 (get_or cs i 0) → r ≡ min a d → time_of (pend_of a) ≡ least (time_at cs) i → time_of (pend_of r) ≡ least (time_at cs) (i + 1)
  unfolding least
  least_turn i a d r h e k l =
      let g : 0 < d = rw e (no_delta (get_or cs i 0)).0 in
      let t : time_of (pend_of d) ≡ time_at cs i = rw e (no_delta (get_or cs i 0)).1 in
      rw (k, lesser_of a d h g, t, add-one i, ← l)

  pub least_end : (i n a : ℕ) → 0 < a → time_of (pend_of a) ≡ least (time_at cs) i → i ≤ n → n ≤ i → n ≡ length cs → Least cs a
  least_end i n a h e f g k =
      record { some = h; is = at_end_lem Found (least (time_at cs)) (time_of (pend_of a)) i n (length cs) e f g k }

-- of events and of threads
pub least_both : (ps ws : List ℕ) (a c r : ℕ) (d : Found) → Least ws a → Least ps c → r ≡ min a c → d ≡ time_of (pend_of r) → d ≡ lesser (least (time_at ps) (length ps)) (least (time_at ws) (length ws))
least_both ps ws a c r d h g e k = rw (k, e, lesser_of a c h.some g.some, h.is, g.is)

-- Sums ---------------------------------------------------------------------------------------------------------

-- the flag of a due time, as a number
flag : (d : Due) → cond (eqb (is_time d) 1) 1 0 ≡ is_time d
flag never = refl
flag delta = refl
flag (at t) = refl

time_once : (d : Due) → is_time d ≤ 1
time_once never = omega arith
time_once delta = omega arith
time_once (at t) = omega arith

module _ (cs : List ℕ) where
  pub times_start : 0 ≡ sum (count_at cs) 0
  unfolding sum
  times_start = refl

  pub times_turn : (i n r : ℕ) → n ≡ sum (count_at cs) i → r ≡ is_time (pend_of (get_or cs i 0)) → n + r ≡ sum (count_at cs) (i + 1)
  unfolding sum
  times_turn i n r h e = rw (add-one i, ← h, ← e) (add_comm n r)

  pub times_end : (i n m : ℕ) → n ≡ sum (count_at cs) i → i ≤ m → m ≤ i → m ≡ length cs → n ≡ sum (count_at cs) (length cs)
  times_end i n m e f g k = at_end_lem ℕ (sum (count_at cs)) n i m (length cs) e f g k

pub one_time : (c r : ℕ) → r ≡ is_time (pend_of c) → r ≤ 1
one_time c r e = rw e (time_once (pend_of c))

-- a flag counts as the time that it tells of
pub flag_counts : (c r : ℕ) (b : Bool) → b ≡ eqb (is_time (pend_of c)) 1 → r ≡ cond b 1 0 → r ≡ is_time (pend_of c)
flag_counts c r b h e = e ∙ ap (λ (z : Bool). cond z 1 0) h ∙ flag (pend_of c)

pub times_both : (ps ws : List ℕ) (n m : ℕ) → n ≡ sum (count_at ps) (length ps) → m ≡ sum (count_at ws) (length ws) → n + m ≡ sum (count_at ps) (length ps) + sum (count_at ws) (length ws)
times_both ps ws n m h g = rw (h, g)

pub ruleset times_laws = (times_start, times_turn, times_end, flag_counts)
