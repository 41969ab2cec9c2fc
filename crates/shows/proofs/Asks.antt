-- What the code asks of its numbers is what the kernel says. Assumes nothing.
use Prim.Native.Nat.{ℕ, zero, suc, ◌+◌, ◌-◌, ◌%◌, ◌^◌, ◌≤◌, ◌<◌}
use mathlib.Core.Path.{◌≡◌, refl, sym, ap, ◌∙◌}
use mathlib.Core.Bool.{Bool, true, false, not, ◌&&◌, ◌||◌}
use mathlib.Core.Logic.{◌⊎◌, inl, inr}
use mathlib.Core.List.{List}
use native.Mathlib.Omega.{arith}
use native.Mathlib.Nat.{add_comm, mod-eq_of_lt}
use borrow.Author.Tests.{ltb-true, ltb-false, lt-ltb, le-ltb, eq-eqb, ne_eqb}
use lib.Dec.{eqb, ltb}
use lib.ListN.{length, get_or}
use Rattle.std.specs.Prelude.{if◌then◌else◌}
use Rattle.laws.specs.Choice.{true_not_false}
use Rattle.sets.specs.Sets.{has, join, minus, least_of}
use Rattle.sets.specs.Laws.{has_join, has_minus, has_full, minus_fits, is_empty, is_full, not_empty, not_full, least_in_lem, least_first, low_next}
use Rattle.kernel.specs.Search.{Found, none, found, any, first, lesser, least, sum}
use Rattle.kernel.specs.Design.{Table, threads, events, updates}
use Rattle.kernel.specs.Kernel.{Due, never, delta, at, Kernel}
use Rattle.kernel.specs.Pending.{is_free, due_of, time_of, is_time, same_due, runnable, is_requested, least_time, times_of}
use Rattle.kernel.specs.Effect.{is_never}
use Rattle.kernel.specs.Run.{not_ended as not_ended_of}
use Rattle.kernel.proofs.Search.{unfound, any_none, any_some, first_none, First, first_found, lesser_found, least_hit, sum_same}
use Rattle.marks.specs.declared.Marks.{Marks}
use Rattle.dues.specs.Codes.{last_time, moment_of, pend_of}
use Rattle.marks.specs.Marks.{idle, may_run, any_runs, first_asked, not_ended}
use Rattle.dues.specs.Dues.{time_at, count_at}
use Rattle.dues.specs.Laws.{pend_low, pend_high, by_size}
use Rattle.shows.specs.Shows.{Kept, Timed, Shows}

-- Of times alone ---------------------------------------------------------------------------------------------------

-- a due time fits a u32
pend_small : (c d : ℕ) → time_of (pend_of c) ≡ found d → d ≤ 4294967295
unfolding moment_of
pend_small c d e =
    by_size (d ≤ 4294967295) last_time c (λ h. low c h (rw (pend_low c h) at e))
    (λ h. absurd (unfound d (rw (pend_high c h) at e)))
  where
    low : (c : ℕ) → c ≤ last_time → time_of (moment_of c) ≡ found d → d ≤ 4294967295
    low zero h q = absurd (unfound d q)
    low (suc u) h q =
        let r : u ≡ d = cc in
        omega arith

pub due_small : (ps ws : List ℕ) (d : ℕ) → lesser (least (time_at ps) (length ps)) (least (time_at ws) (length ws)) ≡ found d → d ≤ 4294967295
due_small ps ws d e = by (lesser_found (least (time_at ps) (length ps)) (least (time_at ws) (length ws)) d e).hit
  where
    of : (cs : List ℕ) → least (time_at cs) (length cs) ≡ found d → d ≤ 4294967295
    of cs q =
        let h = least_hit (time_at cs) (length cs) d q in
        pend_small (get_or cs h.0 0) d h.2

    by : (least (time_at ps) (length ps) ≡ found d) ⊎ (least (time_at ws) (length ws) ≡ found d) → d ≤ 4294967295
    by (inl q) = of ps q
    by (inr q) = of ws q

least_same : (f g : ℕ → Found) (n : ℕ) → ((i : ℕ) → i < n → f i ≡ g i) → least f n ≡ least g n
unfolding least
least_same f g zero h = refl
least_same f g (suc n) h = rw (h n (omega arith), least_same f g n (λ i l. h i (omega arith)))

-- whether a due time stands is told by that time
abbrev one : Found → ℕ
one none = 0
one (found u) = 1

is_one : (d : Due) → is_time d ≡ one (time_of d)
is_one never = refl
is_one delta = refl
is_one (at u) = refl

count_is : (c : ℕ) (d : Due) → Timed c d → is_time (pend_of c) ≡ is_time d
count_is c d w = is_one (pend_of c) ∙ ap one w.same ∙ sym (is_one d)

-- a number for no time is high
no_time : (c : ℕ) → 0 < c → time_of (pend_of c) ≡ none → last_time < c
unfolding moment_of
no_time c l e =
    by_size (last_time < c) last_time c (λ h. low c l (rw (pend_low c h) at e)) (λ h. h)
  where
    low : (c : ℕ) → 0 < c → time_of (moment_of c) ≡ none → last_time < c
    low zero l q = absurd (omega arith)
    low (suc u) l q = absurd (unfound u (sym q))

a_time : (c u : ℕ) → time_of (pend_of c) ≡ found u → c ≤ last_time
a_time c u e = by_size (c ≤ last_time) last_time c (λ h. h) (λ h. absurd (unfound u (rw (pend_high c h) at e)))

nothing_is : (c : ℕ) (d : Due) → Timed c d → is_never d ≡ (not (same_due d delta) && ltb last_time c)
nothing_is c never w = sym (lt-ltb last_time c (no_time c w.no_delta w.same))
nothing_is c delta w = refl
nothing_is c (at u) w = sym (le-ltb last_time c (a_time c u w.same))

-- Of sets alone ----------------------------------------------------------------------------------------------------

-- the sum of the bits below n
low_sum : (s n : ℕ) → s % 2 ^ n ≡ sum (λ i. if has s i then 2 ^ i else 0) n
unfolding sum
low_sum s zero = omega arith
low_sum s (suc n) = low_next s n ∙ rw (low_sum s n) (add_comm _ _)

-- where no bit above n stands, those below are all
low_all : (s n j : ℕ) → ((i : ℕ) → n ≤ i → i < n + j → has s i ≡ false) → s % 2 ^ (n + j) ≡ s % 2 ^ n
low_all s n zero h = let e : n + 0 ≡ n = omega arith in rw e
low_all s n (suc j) h =
    let e : n + suc j ≡ suc (n + j) = omega arith in
    let a : s % 2 ^ (n + j) ≡ s % 2 ^ n = low_all s n j (λ i l g. h i l (omega arith)) in
    let b : has s (n + j) ≡ false = h (n + j) (omega arith) (omega arith) in
    rw e (low_next s (n + j) ∙ rw (a, b) (omega arith))

neither : (a b c : Bool) → not ((not b || c) || a) ≡ ((not a && b) && not c)
neither true true true = refl
neither true true false = refl
neither true false true = refl
neither true false false = refl
neither false true true = refl
neither false true false = refl
neither false false true = refl
neither false false false = refl

module _ (t : Table) (k : Kernel) (x : Kept) (s : Shows t k x) where
  abbrev m : Marks
  m = x.marks

  -- a thread is runnable by the marks just where it is
  idle_is : (i : ℕ) → i < threads t → has (idle m) i ≡ ((not (is_free (k.threads i).wait) || (k.threads i).suspended) || (k.threads i).ended)
  idle_is i h =
      has_join (join m.waiting m.suspended) m.ended i
      ∙ rw (has_join m.waiting m.suspended i, s.waiting i h, s.suspended i h, s.ended i h)

  no_thread_runs : (i : ℕ) → threads t ≤ i → i < 32 → has (idle m) i ≡ true
  no_thread_runs i h l =
      has_join (join m.waiting m.suspended) m.ended i ∙ rw (s.no_thread i h l) (or_true (has (join m.waiting m.suspended) i))
    where
      or_true : (a : Bool) → a || true ≡ true
      or_true true = refl
      or_true false = refl

  pub may_run_lem : (i : ℕ) → may_run m i ≡ runnable t k i
  unfolding may_run
  may_run_lem i = go (ltb i (threads t)) refl
    where
      past : (b : Bool) → ltb i 32 ≡ b → threads t ≤ i → (b && not (has (idle m) i)) ≡ false
      past true e h = rw (no_thread_runs i h (ltb-true i 32 e))
      past false e h = refl

      go : (b : Bool) → ltb i (threads t) ≡ b → (ltb i 32 && not (has (idle m) i)) ≡ (b && (not (k.threads i).ended && is_free (k.threads i).wait && not (k.threads i).suspended))
      go true e =
          let h : i < threads t = ltb-true i (threads t) e in
          rw (lt-ltb i 32 (omega (arith, s.few.threads)), idle_is i h)
          (neither (k.threads i).ended (is_free (k.threads i).wait) (k.threads i).suspended)
      go false e = past (ltb i 32) refl (ltb-false i (threads t) e)

  -- in the set of the idle ones just where it is not runnable
  is_idle : (i : ℕ) → i < 32 → has (idle m) i ≡ not (runnable t k i)
  unfolding may_run
  is_idle i l = turn (has (idle m) i) (runnable t k i) (rw (lt-ltb i 32 l) at (may_run_lem i))
    where
      turn : (a b : Bool) → not a ≡ b → a ≡ not b
      turn true b e = ap not e
      turn false b e = ap not e

  pub any_run : any_runs m ≡ any (runnable t k) (threads t)
  unfolding any_runs
  any_run = go (any (runnable t k) (threads t)) refl
    where
      none_runs : any (runnable t k) (threads t) ≡ false → (i : ℕ) → runnable t k i ≡ false
      none_runs e i = by (ltb i (threads t)) refl
        where
          by : (b : Bool) → ltb i (threads t) ≡ b → runnable t k i ≡ false
          by true q = any_none (runnable t k) (threads t) e i (ltb-true i (threads t) q)
          by false q = rw q

      go : (b : Bool) → any (runnable t k) (threads t) ≡ b → not (eqb (idle m % 4294967296) 4294967295) ≡ b
      go true e =
          let r = any_some (runnable t k) (threads t) e in
          let l : r.0 < 32 = omega (arith, r.1, s.few.threads) in
          rw (ne_eqb (idle m % 4294967296) 4294967295 (not_full (idle m) r.0 l (is_idle r.0 l ∙ ap not r.2)))
      go false e =
          rw (eq-eqb (idle m % 4294967296) 4294967295 (is_full (idle m) (λ i l. is_idle i l ∙ ap not (none_runs e i))))

  -- the first requested update
  asked_is : (u : ℕ) → u < 32 → has m.requested u ≡ is_requested t k u
  asked_is u l = go (ltb u (updates t)) refl
    where
      go : (b : Bool) → ltb u (updates t) ≡ b → has m.requested u ≡ (b && k.requested u)
      go true e = s.requested u (ltb-true u (updates t) e)
      go false e = s.no_update u (ltb-false u (updates t) e) l

  pub asked_first : first_asked m ≡ first (is_requested t k) (updates t)
  unfolding first_asked
  asked_first = go (first (is_requested t k) (updates t)) refl
    where
      r : ℕ
      r = m.requested

      none_asked : first (is_requested t k) (updates t) ≡ none → (u : ℕ) → u < 32 → has r u ≡ false
      none_asked e u l = asked_is u l ∙ by (ltb u (updates t)) refl
        where
          by : (b : Bool) → ltb u (updates t) ≡ b → is_requested t k u ≡ false
          by true q = first_none (is_requested t k) (updates t) e u (ltb-true u (updates t) q)
          by false q = rw q

      least_is : (u : ℕ) → First (is_requested t k) (updates t) u → (r % 4294967296 ≡ 0 → ⊥) → least_of r ≡ u
      least_is u f h =
          let i = least_in_lem r h in
          by_size (least_of r ≡ u) (least_of r) u
          (λ a. by_size (least_of r ≡ u) u (least_of r) (λ b. omega arith) (λ b. true_not_false (sym (asked_is u (omega (arith, f.there, s.few.updates)) ∙ f.passes) ∙ least_first r u b)))
          (λ a. true_not_false (sym i.1 ∙ asked_is (least_of r) i.0 ∙ f.lowest (least_of r) a))

      go : (f : Found) → first (is_requested t k) (updates t) ≡ f → (if eqb (r % 4294967296) 0 then none else found (least_of r)) ≡ f
      go none e = rw (eq-eqb (r % 4294967296) 0 (is_empty r (none_asked e)))
      go (found u) e =
          let f : First (is_requested t k) (updates t) u = first_found (is_requested t k) (updates t) u e in
          let l : u < 32 = omega (arith, f.there, s.few.updates) in
          let h : r % 4294967296 ≡ 0 → ⊥ = not_empty r u l (asked_is u l ∙ f.passes) in
          rw (ne_eqb (r % 4294967296) 0 h) (ap found (least_is u f h))

  -- times
  pub least_time_lem : lesser (least (time_at x.lists.pends) (length x.lists.pends)) (least (time_at x.lists.waits) (length x.lists.waits)) ≡ least_time t k
  unfolding least_time
  least_time_lem =
      rw (
        s.all_pends,
        s.all_waits,
        least_same (time_at x.lists.pends) (λ e. time_of (k.pends e)) (events t) (λ e h. (s.pends e h).same),
        least_same (time_at x.lists.waits) (λ i. time_of (due_of (k.threads i).wait)) (threads t) (λ i h. (s.waits i h).same),
      )

  pub times_are : sum (count_at x.lists.pends) (length x.lists.pends) + sum (count_at x.lists.waits) (length x.lists.waits) ≡ times_of t k
  unfolding times_of
  times_are =
      rw (
        s.all_pends,
        s.all_waits,
        sum_same (count_at x.lists.pends) (λ e. is_time (k.pends e)) (events t) (λ e h. count_is _ _ (s.pends e h)),
        sum_same (count_at x.lists.waits) (λ i. is_time (due_of (k.threads i).wait)) (threads t) (λ i h. count_is _ _ (s.waits i h)),
      )

  pub never_is : (e : ℕ) → e < events t → is_never (k.pends e) ≡ (not (has m.pending e) && ltb last_time (get_or x.lists.pends e 0))
  never_is e h = rw (s.pending e h) (nothing_is (get_or x.lists.pends e 0) (k.pends e) (s.pends e h))

  -- the threads not ended
  pub not_ended_is : not_ended m ≡ not_ended_of t k
  unfolding not_ended
  not_ended_is =
      sym (low (minus_fits 4294967295 m.ended (omega arith)))
      ∙ low_sum u (threads t)
      ∙ sum_same _ _ (threads t) (λ i h. rw (in_it i (omega (arith, s.few.threads)), s.ended i h) (swap (k.threads i).ended (2 ^ i)))
    where
      u : ℕ
      u = minus 4294967295 m.ended

      in_it : (i : ℕ) → i < 32 → has u i ≡ not (has m.ended i)
      in_it i l = has_minus 4294967295 m.ended i l ∙ rw (has_full i l)

      swap : (b : Bool) (n : ℕ) → (if not b then n else 0) ≡ (if b then 0 else n)
      swap true n = refl
      swap false n = refl

      low : u < 4294967296 → u % 2 ^ threads t ≡ u
      low h =
          let e : threads t + (32 - threads t) ≡ 32 = omega (arith, s.few.threads) in
          let a : u % 2 ^ (threads t + (32 - threads t)) ≡ u % 2 ^ threads t = low_all u (threads t) (32 - threads t) (λ i q l. let z : i < 32 = omega arith in in_it i z ∙ ap not (s.no_thread i q z)) in
          sym (rw e at a) ∙ mod-eq_of_lt h
