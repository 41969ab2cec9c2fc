-- What the code makes of the numbers is what the kernel makes of what they stand for. Assumes nothing.
use Rattle.std.specs.Prelude.{ℕ, zero, suc, ◌≤◌, ◌<◌, min, ◌≡◌, refl, Bool, true, false, ◌&&◌, List, get_or, eqb, ltb, leb, if◌then◌else◌}
use Rattle.std.proofs.Common.{sym, ap, ◌∙◌, add-one, arith, le-leb, lt-ltb, le-ltb, eq-eqb, ne_eqb, leb-true, leb-false, eqb-true}
use Rattle.std.proofs.Math.Nat.{zero-min, min-zero, suc-min-suc, min-eq_left, min-eq_right}
use Rattle.std.proofs.Math.Decide.{dec_le}
use Rattle.std.proofs.Math.Dec.{eqb-zero-suc, eqb-suc-zero, eqb-suc-suc}
use Rattle.std.proofs.lemmas.Bool.{lt-leb, eqb-false}
use Rattle.sets.specs.Sets.{has, with}
use Rattle.sets.specs.Laws.{has_zero, has_with}
use Rattle.kernel.specs.Search.{none}
use Rattle.kernel.specs.Kernel.{never, at, earlier, after_delay}
use Rattle.kernel.specs.Pending.{time_of, same_due}
use Rattle.dues.specs.Codes.{last_time, for_nothing, moment_of, pend_of}
use Rattle.dues.specs.Dues.{ask_code, over_code, due_to}

-- What a number stands for, by its size ------------------------------------------------------------------------

pub pend_low : (c : ℕ) → c ≤ last_time → pend_of c ≡ moment_of c
unfolding pend_of
pend_low c h = rw (pend_of, le-leb c last_time h)

pub pend_high : (c : ℕ) → last_time < c → pend_of c ≡ never
unfolding pend_of
pend_high c h = rw (pend_of, lt-leb c last_time h)

pub nothing_pends : pend_of for_nothing ≡ never
unfolding pend_of
nothing_pends = refl

-- so a proof goes by its size
pub by_size : (P : Type 0) (b c : ℕ) → (c ≤ b → P) → (b < c → P) → P
by_size P b c f g = go (dec_le c b)
  where
    go : Dec (c ≤ b) → P
    go (yes h) = f h
    go (no h) = g (omega arith)

-- two numbers stand for one moment just where they are one number
pub same_moment : (c q : ℕ) → same_due (moment_of c) (moment_of q) ≡ eqb c q
unfolding moment_of
same_moment zero zero = refl
same_moment zero (suc u) = sym (eqb-zero-suc u)
same_moment (suc t) zero = sym (eqb-suc-zero t)
same_moment (suc t) (suc u) = sym (eqb-suc-suc t u)

-- a number stands for the moment q just where it is q
pub same_pend : (q c : ℕ) → q ≤ last_time → same_due (pend_of c) (moment_of q) ≡ eqb c q
same_pend q c h =
    by_size (same_due (pend_of c) (moment_of q) ≡ eqb c q) last_time c (λ g. rw (pend_low c g) (same_moment c q))
    (λ g. rw (pend_high c g, ne_eqb c q (λ e. omega arith)))

-- Notifications ------------------------------------------------------------------------------------------------

pub asked : (now d : ℕ) → moment_of (ask_code now d) ≡ after_delay now d
unfolding ask_code moment_of
asked now zero = refl
asked now (suc n) = rw (eqb-suc-zero n, add-one)

earlier_moment : (q c : ℕ) → moment_of (min q c) ≡ earlier (moment_of q) (moment_of c)
unfolding moment_of
earlier_moment zero c = rw zero-min
earlier_moment (suc t) zero = rw min-zero
earlier_moment (suc t) (suc u) = rw suc-min-suc (go (leb t u) refl)
  where
    go : (b : Bool) → leb t u ≡ b → at (min t u) ≡ if b then at t else at u
    go true e = ap at (min-eq_left (leb-true t u e))
    go false e = let h : u ≤ t = omega (arith, leb-false t u e) in ap at (min-eq_right h)

never_earlier : (q : ℕ) → moment_of q ≡ earlier (moment_of q) never
unfolding moment_of
never_earlier zero = refl
never_earlier (suc t) = refl

-- "The earlier one stays"
pub earlier_stays : (q c : ℕ) → q ≤ last_time → pend_of (min q c) ≡ earlier (moment_of q) (pend_of c)
earlier_stays q c h =
    by_size (pend_of (min q c) ≡ earlier (moment_of q) (pend_of c)) last_time c
    (λ g. let k : min q c ≤ last_time = omega arith in rw (pend_low (min q c) k, pend_low c g) (earlier_moment q c))
    (λ g. let k : min q c ≡ q = omega arith in rw (k, pend_low q h, pend_high c g) (never_earlier q))

pub earlier_time : (q c : ℕ) → 0 < q → q ≤ last_time → 0 < c → time_of (pend_of (min q c)) ≡ time_of (earlier (moment_of q) (pend_of c))
earlier_time q c g h k = ap time_of (earlier_stays q c h)

-- What is over -------------------------------------------------------------------------------------------------

-- an event after all that is due at a moment was served
pub event_served : (q c : ℕ) → q ≤ last_time → pend_of (over_code q c) ≡ if same_due (pend_of c) (moment_of q) then never else pend_of c
unfolding over_code
event_served q c h = rw (over_code, same_pend q c h) (go (eqb c q))
  where
    go : (b : Bool) → pend_of (if b then for_nothing else c) ≡ if b then never else pend_of c
    go true = nothing_pends
    go false = refl

pub time_over : (q c : ℕ) → 0 < q → q ≤ last_time → time_of (pend_of (over_code q c)) ≡ (if same_due (pend_of c) (moment_of q) then none else time_of (pend_of c))
time_over q c g h = ap time_of (event_served q c h) ∙ go (same_due (pend_of c) (moment_of q))
  where
    go : (b : Bool) → time_of (if b then never else pend_of c) ≡ (if b then none else time_of (pend_of c))
    go true = refl
    go false = refl

-- a bound one higher takes in one place more
pub before_next : (i n : ℕ) → (i ≡ n → ⊥) → ltb i (suc n) ≡ ltb i n
before_next i n h =
    by_size (ltb i (suc n) ≡ ltb i n) n i (λ g. lt-ltb i (suc n) (omega arith) ∙ sym (lt-ltb i n (omega arith)))
    (λ g. le-ltb i (suc n) g ∙ sym (le-ltb i n (omega arith)))

-- the places below n that hold the number q
pub due_at : (q : ℕ) (cs : List ℕ) (n i : ℕ) → i < 32 → has (due_to q cs n) i ≡ (ltb i n && eqb (get_or cs i 0) q)
unfolding due_to
due_at q cs zero i l = has_zero i ∙ rw (le-ltb i 0 (omega arith))
due_at q cs (suc n) i l = go (eqb i n) refl (due_at q cs n)
  where
    Before : ℕ → Type 0
    Before k = k < 32 → has (due_to q cs n) k ≡ (ltb k n && eqb (get_or cs k 0) q)

    here : (b : Bool) → n < 32 → Before n → has (if b then with (due_to q cs n) n else due_to q cs n) n ≡ b
    here true g h = rw (has_with (due_to q cs n) n n g, eq-eqb n n refl)
    here false g h = rw (h g, le-ltb n n (omega arith))

    other : (b : Bool) → eqb i n ≡ false → has (if b then with (due_to q cs n) n else due_to q cs n) i ≡ has (due_to q cs n) i
    other true e = rw (has_with (due_to q cs n) n i l, e)
    other false e = refl

    go : (b : Bool) → eqb i n ≡ b → ((k : ℕ) → Before k) → has (if eqb (get_or cs n 0) q then with (due_to q cs n) n else due_to q cs n) i ≡ (ltb i (suc n) && eqb (get_or cs i 0) q)
    go true e h =
        let m : i ≡ n = eqb-true i n e in
        rw (m, lt-ltb n (suc n) (omega arith)) (here (eqb (get_or cs n 0) q) (omega arith) (h n))
    go false e h = rw (before_next i n (eqb-false i n e)) (other (eqb (get_or cs n 0) q) e ∙ h i l)
