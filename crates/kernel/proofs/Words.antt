-- The kernel after a history is what the words say.
use Prim.Native.Nat.{ℕ}
use mathlib.Core.Path.{◌≡◌, refl, ap, ◌∙◌, sym, subst}
use mathlib.Core.Bool.{Bool, true, false, not, ◌&&◌, ◌||◌, true≢false}
use mathlib.Core.Logic.{◌⊎◌, inl, inr}
use mathlib.Core.List.{[], ◌∷◌}
use native.Mathlib.Omega.{arith}
use lib.Dec.{eqb, ltb, leb}
use borrow.Author.Tests.{eqb-true, eq-eqb, ltb-true, lt-ltb, not-true, leb-true, leb-false}
use Rattle.std.specs.Prelude.{if◌then◌else◌}
use Rattle.laws.specs.Choice.{and_left, and_right}
use Rattle.kernel.specs.Design.{Table, Body, main, thread, update, threads, updates}
use Rattle.kernel.specs.Kernel.{Due, never, delta, at, earlier, Wait, free, on, till, Thread, waiting, standing, ending, suspending, asks_back, free_on, free_timed, Kernel, nothing, reads, notifies, asks, waits, requests, suspends, resumes, Happening, ran, triggered, freed, resumed, ended, dispatched, finished, began, moved, quiet, limited, History, during, past, after, kernel}
use Rattle.kernel.specs.Pending.{runnable, is_requested, is_free}
use Rattle.kernel.specs.Words.{like, since, requested, has_ended, suspended, resuming, Clock, clock, triggers, Asked, asks_now, asks_yet, NotLater, Pends, ends_wait, Waits, waits_now, waits_yet, Runnable, Requested}
use Rattle.kernel.specs.Demand.{Might, Rightly}
use Rattle.kernel.proofs.Fields.{field_at, field_same, keeps_suspend, keeps_back}

-- Marks ----------------------------------------------------------------------------------------------------------

set_mark : (z b : Bool) → (if z then true else b) ≡ (z || b)
set_mark true b = refl
set_mark false b = refl

clear_mark : (z b : Bool) → (if z then false else b) ≡ (not z && b)
clear_mark true b = refl
clear_mark false b = refl

-- the marks of thread i and of update i after a happening, each as `since` has it
abbrev Marks : Happening → ℕ → Kernel → Thread → Type 0
Marks x i k s =
    ((after x k).requested i ≡ (like (ran main (requests i)) x || (not (like (finished i) x) && k.requested i)))
    × ((s.ended ≡ (like (ended i) x || (k.threads i).ended))
    × (s.suspended ≡ ((like (ran main (suspends i)) x && not (k.threads i).ended) || (not (like (resumed i) x) && (k.threads i).suspended)))
    × (s.resuming ≡ ((like (ran main (resumes i)) x && ((k.threads i).suspended && not (k.threads i).ended)) || (not (like (resumed i) x || (like (ran main (suspends i)) x && not (k.threads i).ended)) && (k.threads i).resuming))))

marks : (x : Happening) (i : ℕ) (k : Kernel) → Marks x i k ((after x k).threads i)
unfolding after
marks (ran c nothing) i k = (refl, (refl, refl, refl))
marks (ran c reads) i k = (refl, (refl, refl, refl))
marks (ran c (notifies n)) i k = (refl, (refl, refl, refl))
marks (ran c (asks n d)) i k = (refl, (refl, refl, refl))
marks (ran main (waits w)) i k = (refl, (refl, refl, refl))
marks (ran (thread n) (waits w)) i k = go (eqb i n)
  where
    go : (z : Bool) → Marks (ran (thread n) (waits w)) i k (if z then waiting w (k.threads i) else k.threads i)
    go true = (refl, (refl, refl, refl))
    go false = (refl, (refl, refl, refl))
marks (ran (update v) (waits w)) i k = (refl, (refl, refl, refl))
marks (ran c (requests n)) i k = (set_mark (eqb i n) (k.requested i), (refl, refl, refl))
marks (ran c (suspends n)) i k = (refl, go (eqb i n) (k.threads i).ended)
  where
    s : Thread
    s = k.threads i

    go : (z e : Bool) → let r : Thread = if z then (if e then s else standing true false s) else s in
        (r.ended ≡ s.ended) × (r.suspended ≡ ((z && not e) || s.suspended)) × (r.resuming ≡ (not (z && not e) && s.resuming))
    go true true = (refl, refl, refl)
    go true false = (refl, refl, refl)
    go false e = (refl, refl, refl)
marks (ran c (resumes n)) i k = (refl, go (eqb i n) ((k.threads i).suspended && not (k.threads i).ended))
  where
    s : Thread
    s = k.threads i

    go : (z b : Bool) → let r : Thread = if z then (if b then standing s.suspended true s else s) else s in
        (r.ended ≡ s.ended) × (r.suspended ≡ s.suspended) × (r.resuming ≡ ((z && b) || s.resuming))
    go true true = (refl, refl, refl)
    go true false = (refl, refl, refl)
    go false b = (refl, refl, refl)
marks (triggered n) i k = (refl, (refl, refl, refl))
marks (freed n) i k = go (eqb i n)
  where
    go : (z : Bool) → Marks (freed n) i k (if z then waiting (free_timed (k.threads i).wait) (k.threads i) else k.threads i)
    go true = (refl, (refl, refl, refl))
    go false = (refl, (refl, refl, refl))
marks (resumed n) i k = (refl, go (eqb i n))
  where
    s : Thread
    s = k.threads i

    go : (z : Bool) → let r : Thread = if z then standing false false s else s in
        (r.ended ≡ s.ended) × (r.suspended ≡ (not z && s.suspended)) × (r.resuming ≡ (not (z || false) && s.resuming))
    go true = (refl, refl, refl)
    go false = (refl, refl, refl)
marks (ended n) i k = (refl, go (eqb i n))
  where
    s : Thread
    s = k.threads i

    go : (z : Bool) → let r : Thread = if z then ending s else s in (r.ended ≡ (z || s.ended)) × (r.suspended ≡ s.suspended) × (r.resuming ≡ s.resuming)
    go true = (refl, refl, refl)
    go false = (refl, refl, refl)
marks (dispatched n) i k = (refl, (refl, refl, refl))
marks (finished n) i k = (clear_mark (eqb i n) (k.requested i), (refl, refl, refl))
marks (began l) i k = (refl, (refl, refl, refl))
marks (moved v) i k = (refl, (refl, refl, refl))
marks quiet i k = (refl, (refl, refl, refl))
marks limited i k = (refl, (refl, refl, refl))

update_requested : (h : History) (u : ℕ) → (kernel h).requested u ≡ requested h u
unfolding kernel since
update_requested [] u = refl
update_requested (x ∷ h) u = rw (← update_requested h u) (marks x u (kernel h)).0

pub thread_ended : (h : History) (i : ℕ) → ((kernel h).threads i).ended ≡ has_ended h i
unfolding kernel since
thread_ended [] i = refl
thread_ended (x ∷ h) i = rw (← thread_ended h i) (marks x i (kernel h)).1.0

pub thread_suspended : (h : History) (i : ℕ) → ((kernel h).threads i).suspended ≡ suspended h i
unfolding kernel since
thread_suspended [] i = refl
thread_suspended (x ∷ h) i = rw (← thread_suspended h i, ← thread_ended h i) (marks x i (kernel h)).1.1

pub thread_resuming : (h : History) (i : ℕ) → ((kernel h).threads i).resuming ≡ resuming h i
unfolding kernel since
thread_resuming [] i = refl
thread_resuming (x ∷ h) i = rw (← thread_resuming h i, ← thread_suspended h i, ← thread_ended h i) (marks x i (kernel h)).1.2

-- The clock ------------------------------------------------------------------------------------------------------

abbrev clock_of : Kernel → Clock
clock_of k = record { time = k.now; limit = k.limit; stage = k.stage }

kernel_clock : (h : History) → clock_of (kernel h) ≡ clock h
unfolding kernel after clock
kernel_clock [] = refl
kernel_clock (ran c nothing ∷ h) = kernel_clock h
kernel_clock (ran c reads ∷ h) = kernel_clock h
kernel_clock (ran c (notifies n) ∷ h) = kernel_clock h
kernel_clock (ran c (asks n d) ∷ h) = kernel_clock h
kernel_clock (ran main (waits w) ∷ h) = kernel_clock h
kernel_clock (ran (thread n) (waits w) ∷ h) = kernel_clock h
kernel_clock (ran (update v) (waits w) ∷ h) = kernel_clock h
kernel_clock (ran c (requests n) ∷ h) = kernel_clock h
kernel_clock (ran c (suspends n) ∷ h) = kernel_clock h
kernel_clock (ran c (resumes n) ∷ h) = kernel_clock h
kernel_clock (triggered n ∷ h) = kernel_clock h
kernel_clock (freed n ∷ h) = kernel_clock h
kernel_clock (resumed n ∷ h) = kernel_clock h
kernel_clock (ended n ∷ h) = kernel_clock h
kernel_clock (dispatched n ∷ h) = kernel_clock h
kernel_clock (finished n ∷ h) = kernel_clock h
kernel_clock (began l ∷ h) = ap (λ (c : Clock). record { time = c.time; limit = l; stage = during }) (kernel_clock h)
kernel_clock (moved v ∷ h) = ap (λ (c : Clock). record { time = v; limit = c.limit; stage = c.stage }) (kernel_clock h)
kernel_clock (quiet ∷ h) = ap (λ (c : Clock). record { time = c.time; limit = c.limit; stage = past 0 }) (kernel_clock h)
kernel_clock (limited ∷ h) = ap (λ (c : Clock). record { time = c.time; limit = c.limit; stage = past 10 }) (kernel_clock h)

pub time_now : (h : History) → (kernel h).now ≡ (clock h).time
time_now h = ap (λ (c : Clock). c.time) (kernel_clock h)

pub limit_now : (h : History) → (kernel h).limit ≡ (clock h).limit
limit_now h = ap (λ (c : Clock). c.limit) (kernel_clock h)

pub stage_now : (h : History) → (kernel h).stage ≡ (clock h).stage
stage_now h = ap (λ (c : Clock). c.stage) (kernel_clock h)

-- Notifications --------------------------------------------------------------------------------------------------

or_false : (a : Bool) → a || false ≡ a
or_false true = refl
or_false false = refl

-- what a happening makes of what pends for event e
pub data PendStep (e : ℕ) (x : Happening) (p : Due) : Due → Type 0 where
  pend_drops : triggers e x ≡ true → PendStep e x p never
  pend_adds : (b : Body) (d : Due) → x ≡ ran b (asks e d) → PendStep e x p (earlier d p)
  pend_stays : triggers e x ≡ false → PendStep e x p p

pend_trigger : (e : ℕ) (x : Happening) (p : Due) (z : Bool) → triggers e x ≡ z → PendStep e x p (if z then never else p)
pend_trigger e x p true q = pend_drops q
pend_trigger e x p false q = pend_stays q

pub pend_step : (x : Happening) (e : ℕ) (k : Kernel) → PendStep e x (k.pends e) ((after x k).pends e)
unfolding after
pend_step (ran c nothing) e k = pend_stays refl
pend_step (ran c reads) e k = pend_stays refl
pend_step (ran c (notifies n)) e k = pend_trigger e (ran c (notifies n)) (k.pends e) (eqb e n) refl
pend_step (ran c (asks n d)) e k = go (eqb e n) refl
  where
    go : (z : Bool) → eqb e n ≡ z → PendStep e (ran c (asks n d)) (k.pends e) (if z then earlier d (k.pends e) else k.pends e)
    go true q = pend_adds c d (rw (eqb-true e n q))
    go false q = pend_stays refl
pend_step (ran main (waits w)) e k = pend_stays refl
pend_step (ran (thread n) (waits w)) e k = pend_stays refl
pend_step (ran (update v) (waits w)) e k = pend_stays refl
pend_step (ran c (requests n)) e k = pend_stays refl
pend_step (ran c (suspends n)) e k = pend_stays refl
pend_step (ran c (resumes n)) e k = pend_stays refl
pend_step (triggered n) e k = pend_trigger e (triggered n) (k.pends e) (eqb e n) (or_false (eqb e n))
pend_step (freed n) e k = pend_stays refl
pend_step (resumed n) e k = pend_stays refl
pend_step (ended n) e k = pend_stays refl
pend_step (dispatched n) e k = pend_stays refl
pend_step (finished n) e k = pend_stays refl
pend_step (began l) e k = pend_stays refl
pend_step (moved v) e k = pend_stays refl
pend_step quiet e k = pend_stays refl
pend_step limited e k = pend_stays refl

-- the earlier of two
at_pick : (t u : ℕ) (b : Bool) → leb t u ≡ b → NotLater (if b then at t else at u) (at t) × NotLater (if b then at t else at u) (at u)
at_pick t u true q = omega (arith, leb-true)
at_pick t u false q = omega (arith, leb-false)

earlier_left : (d p : Due) → NotLater (earlier d p) d
earlier_left never p = tt
earlier_left delta p = tt
earlier_left (at t) never = omega arith
earlier_left (at t) delta = tt
earlier_left (at t) (at u) = (at_pick t u (leb t u) refl).0

earlier_right : (d p m : Due) → NotLater p m → NotLater (earlier d p) m
earlier_right d p never q = tt
earlier_right never p delta q = q
earlier_right delta p delta q = tt
earlier_right (at t) never delta q = absurd q
earlier_right (at t) delta delta q = tt
earlier_right (at t) (at u) delta q = absurd q
earlier_right never p (at v) q = q
earlier_right delta p (at v) q = tt
earlier_right (at t) never (at v) q = absurd q
earlier_right (at t) delta (at v) q = tt
earlier_right (at t) (at u) (at v) q = go (leb t u) (at_pick t u (leb t u) refl).1
  where
    go : (b : Bool) → NotLater (if b then at t else at u) (at u) → NotLater (if b then at t else at u) (at v)
    go true r = omega arith
    go false r = q

pub earlier_pick : (d p : Due) → (earlier d p ≡ d) ⊎ (earlier d p ≡ p)
earlier_pick never p = inr refl
earlier_pick delta p = inl refl
earlier_pick (at t) never = inl refl
earlier_pick (at t) delta = inr refl
earlier_pick (at t) (at u) = go (leb t u)
  where
    go : (b : Bool) → ((if b then at t else at u) ≡ at t) ⊎ ((if b then at t else at u) ≡ at u)
    go true = inl refl
    go false = inr refl

earliest : (e : ℕ) (d : Due) (h : History) → Asked e d h → NotLater ((kernel h).pends e) d
unfolding kernel after
earliest e d h (asks_now {b = b} {h = r}) = rw (eq-eqb e e refl) (earlier_left d ((kernel r).pends e))
earliest e d h (asks_yet {x = x} {h = r} q a) = go ((after x (kernel r)).pends e) (pend_step x e (kernel r)) (earliest e d r a)
  where
    go : (p : Due) → PendStep e x ((kernel r).pends e) p → NotLater ((kernel r).pends e) d → NotLater p d
    go p (pend_drops z) n = absurd (true≢false (sym z ∙ q))
    go p (pend_adds b c z) n = earlier_right c ((kernel r).pends e) d n
    go p (pend_stays z) n = n

stands : (h : History) (e : ℕ) → ((kernel h).pends e ≡ never) ⊎ Asked e ((kernel h).pends e) h
unfolding kernel
stands [] e = inl refl
stands (x ∷ h) e = go ((after x (kernel h)).pends e) (pend_step x e (kernel h)) (stands h e)
  where
    carry : (p : Due) → triggers e x ≡ false → p ≡ (kernel h).pends e → ((kernel h).pends e ≡ never) ⊎ Asked e ((kernel h).pends e) h → (p ≡ never) ⊎ Asked e p (x ∷ h)
    carry p q c (inl z) = inl (c ∙ z)
    carry p q c (inr a) = inr (rw c (asks_yet q a))

    go : (p : Due) → PendStep e x ((kernel h).pends e) p → ((kernel h).pends e ≡ never) ⊎ Asked e ((kernel h).pends e) h → (p ≡ never) ⊎ Asked e p (x ∷ h)
    go p (pend_drops z) s = inl refl
    go p (pend_adds b d z) s = by (earlier_pick d ((kernel h).pends e))
      where
        by : (earlier d ((kernel h).pends e) ≡ d) ⊎ (earlier d ((kernel h).pends e) ≡ (kernel h).pends e) → (earlier d ((kernel h).pends e) ≡ never) ⊎ Asked e (earlier d ((kernel h).pends e)) (x ∷ h)
        by (inl q) = inr (rw (q, z) asks_now)
        by (inr q) = carry (earlier d ((kernel h).pends e)) (rw z) q s
    go p (pend_stays z) s = carry ((kernel h).pends e) z refl s

pub pends : (h : History) (e : ℕ) → Pends h e ((kernel h).pends e)
pends h e = record { earliest = λ d a. earliest e d h a; stands = stands h e }

later_never : (q : Due) → NotLater never q → q ≡ never
later_never never n = refl
later_never delta n = absurd n
later_never (at u) n = absurd n

later_same : (p q : Due) → NotLater p q → NotLater q p → p ≡ q
later_same never q m n = sym (later_never q m)
later_same delta never m n = absurd n
later_same delta delta m n = refl
later_same delta (at u) m n = absurd n
later_same (at t) never m n = absurd n
later_same (at t) delta m n = absurd m
later_same (at t) (at u) m n = let e : t ≡ u = omega arith in ap at e

pub pends_one : (h : History) (e : ℕ) (p q : Due) → Pends h e p → Pends h e q → p ≡ q
pends_one h e p q a b = go a.stands b.stands
  where
    go : (p ≡ never) ⊎ Asked e p h → (q ≡ never) ⊎ Asked e q h → p ≡ q
    go (inl y) (inl z) = y ∙ sym z
    go (inl y) (inr w) = y ∙ sym (later_never q (subst (λ (d : Due). NotLater d q) y (a.earliest q w)))
    go (inr v) (inl z) = later_never p (subst (λ (d : Due). NotLater d p) z (b.earliest p v)) ∙ sym z
    go (inr v) (inr w) = later_same p q (a.earliest q w) (b.earliest p v)

-- Waits ----------------------------------------------------------------------------------------------------------

-- what a happening makes of a wait of thread i
pub data WaitStep (i : ℕ) (x : Happening) (w : Wait) : Wait → Type 0 where
  wait_begins : (v : Wait) → x ≡ ran (thread i) (waits v) → WaitStep i x w v
  wait_ends : ends_wait i w x ≡ true → WaitStep i x w free
  wait_stays : ends_wait i w x ≡ false → WaitStep i x w w

abbrev wait_of : Thread → Wait
wait_of s = s.wait

module _ (i : ℕ) (x : Happening) where
  -- no event triggers, and the thread is not freed
  plain : ((e : ℕ) → triggers e x ≡ false) → like (freed i) x ≡ false → (w v : Wait) → v ≡ w → WaitStep i x w v
  plain a b w v q = rw q (wait_stays (go w))
    where
      go : (w : Wait) → ends_wait i w x ≡ false
      go free = refl
      go (on e) = a e
      go (till d) = b

  -- event n triggers
  at_trigger : (n : ℕ) → ((e : ℕ) → triggers e x ≡ eqb e n) → like (freed i) x ≡ false → (w : Wait) → WaitStep i x w (free_on n w)
  at_trigger n a b free = wait_stays refl
  at_trigger n a b (on e) = go (eqb e n) refl
    where
      go : (z : Bool) → eqb e n ≡ z → WaitStep i x (on e) (if z then free else on e)
      go true q = wait_ends (a e ∙ q)
      go false q = wait_stays (a e ∙ q)
  at_trigger n a b (till d) = wait_stays b

at_free : (i n : ℕ) (w : Wait) (z : Bool) → eqb i n ≡ z → WaitStep i (freed n) w (if z then free_timed w else w)
at_free i n free true q = wait_stays refl
at_free i n (on e) true q = wait_stays refl
at_free i n (till d) true q = wait_ends q
at_free i n free false q = wait_stays refl
at_free i n (on e) false q = wait_stays refl
at_free i n (till d) false q = wait_stays q

pub wait_step : (x : Happening) (i : ℕ) (k : Kernel) → WaitStep i x (k.threads i).wait ((after x k).threads i).wait
unfolding after
wait_step (ran c nothing) i k = plain i (ran c nothing) (λ e. refl) refl _ _ refl
wait_step (ran c reads) i k = plain i (ran c reads) (λ e. refl) refl _ _ refl
wait_step (ran c (notifies n)) i k = at_trigger i (ran c (notifies n)) n (λ e. refl) refl (k.threads i).wait
wait_step (ran c (asks n d)) i k = plain i (ran c (asks n d)) (λ e. refl) refl _ _ refl
wait_step (ran main (waits w)) i k = plain i (ran main (waits w)) (λ e. refl) refl _ _ refl
wait_step (ran (thread n) (waits w)) i k = go (eqb i n) refl
  where
    go : (z : Bool) → eqb i n ≡ z → WaitStep i (ran (thread n) (waits w)) (k.threads i).wait (if z then waiting w (k.threads i) else k.threads i).wait
    go true q = wait_begins w (rw (eqb-true i n q))
    go false q = plain i (ran (thread n) (waits w)) (λ e. refl) refl _ _ refl
wait_step (ran (update v) (waits w)) i k = plain i (ran (update v) (waits w)) (λ e. refl) refl _ _ refl
wait_step (ran c (requests n)) i k = plain i (ran c (requests n)) (λ e. refl) refl _ _ refl
wait_step (ran c (suspends n)) i k =
    plain i (ran c (suspends n)) (λ e. refl) refl _ _ (field_same wait_of (eqb i n) (suspending (k.threads i)) (k.threads i) (keeps_suspend wait_of (k.threads i) refl))
wait_step (ran c (resumes n)) i k =
    plain i (ran c (resumes n)) (λ e. refl) refl _ _ (field_same wait_of (eqb i n) (asks_back (k.threads i)) (k.threads i) (keeps_back wait_of (k.threads i) refl))
wait_step (triggered n) i k = at_trigger i (triggered n) n (λ e. or_false (eqb e n)) refl (k.threads i).wait
wait_step (freed n) i k = rw (field_at wait_of (eqb i n) _ (k.threads i)) (at_free i n (k.threads i).wait (eqb i n) refl)
wait_step (resumed n) i k = plain i (resumed n) (λ e. refl) refl _ _ (field_same wait_of (eqb i n) _ (k.threads i) refl)
wait_step (ended n) i k = plain i (ended n) (λ e. refl) refl _ _ (field_same wait_of (eqb i n) _ (k.threads i) refl)
wait_step (dispatched n) i k = plain i (dispatched n) (λ e. refl) refl _ _ refl
wait_step (finished n) i k = plain i (finished n) (λ e. refl) refl _ _ refl
wait_step (began l) i k = plain i (began l) (λ e. refl) refl _ _ refl
wait_step (moved v) i k = plain i (moved v) (λ e. refl) refl _ _ refl
wait_step quiet i k = plain i quiet (λ e. refl) refl _ _ refl
wait_step limited i k = plain i limited (λ e. refl) refl _ _ refl

pub on_waits : (h : History) (i : ℕ) (w : Wait) → is_free w ≡ false → ((kernel h).threads i).wait ≡ w → Waits i w h
unfolding kernel
on_waits [] i w f q = absurd (true≢false (ap is_free q ∙ f))
on_waits (x ∷ h) i w f q = go ((after x (kernel h)).threads i).wait (wait_step x i (kernel h)) q (on_waits h i w f)
  where
    go : (v : Wait) → WaitStep i x ((kernel h).threads i).wait v → v ≡ w → (((kernel h).threads i).wait ≡ w → Waits i w h) → Waits i w (x ∷ h)
    go v (wait_begins u e) z r = rw (e, z) waits_now
    go v (wait_ends e) z r = absurd (true≢false (ap is_free z ∙ f))
    go v (wait_stays e) z r = waits_yet (rw z at e) (r z)

-- a runnable thread waits for nothing
no_wait : (t : Table) (h : History) (i : ℕ) (w : Wait) → is_free w ≡ false → Runnable t h i → Waits i w h → ⊥
no_wait t h i free f r a = true≢false f
no_wait t h i (on e) f r a = r.no_event e a
no_wait t h i (till d) f r a = r.no_time d a

-- so a wait is over before the next one begins
pub waits_on_lem : (t : Table) (i : ℕ) (w : Wait) → is_free w ≡ false → (h : History) → Rightly t h → Waits i w h → ((kernel h).threads i).wait ≡ w
unfolding kernel after
waits_on_lem t i w f h p (waits_now {h = r}) = rw (eq-eqb i i refl)
waits_on_lem t i w f h p (waits_yet {x = x} {h = r} q a) = go ((after x (kernel r)).threads i).wait (wait_step x i (kernel r)) (waits_on_lem t i w f r p.2 a)
  where
    go : (v : Wait) → WaitStep i x ((kernel r).threads i).wait v → ((kernel r).threads i).wait ≡ w → v ≡ w
    go v (wait_begins u e) z = absurd (no_wait t r i w f (subst (Might t r) e p.1).0 a)
    go v (wait_ends e) z = absurd (true≢false (sym (rw z at e) ∙ q))
    go v (wait_stays e) z = z

-- Threads and updates --------------------------------------------------------------------------------------------

pub runs_runnable : (t : Table) (h : History) (i : ℕ) → Rightly t h → runnable t (kernel h) i ≡ true → Runnable t h i
runs_runnable t h i p r =
    let k : Kernel = kernel h in
    let a = and_right (ltb i (threads t)) (not (k.threads i).ended && is_free (k.threads i).wait && not (k.threads i).suspended) r in
    let b = and_left (not (k.threads i).ended && is_free (k.threads i).wait) (not (k.threads i).suspended) a in
    let f : is_free (k.threads i).wait ≡ true = and_right (not (k.threads i).ended) (is_free (k.threads i).wait) b in
    record {
      there = ltb-true i (threads t) (and_left (ltb i (threads t)) _ r);
      not_ended = sym (thread_ended h i) ∙ not-true (k.threads i).ended (and_left (not (k.threads i).ended) (is_free (k.threads i).wait) b);
      not_suspended = sym (thread_suspended h i) ∙ not-true (k.threads i).suspended (and_right (not (k.threads i).ended && is_free (k.threads i).wait) (not (k.threads i).suspended) a);
      no_event = λ e w. true≢false (sym f ∙ ap is_free (waits_on_lem t i (on e) refl h p w));
      no_time = λ d w. true≢false (sym f ∙ ap is_free (waits_on_lem t i (till d) refl h p w));
    }

pub runnable_runs : (t : Table) (h : History) (i : ℕ) → Runnable t h i → runnable t (kernel h) i ≡ true
runnable_runs t h i r =
    rw (lt-ltb i (threads t) r.there, thread_ended h i, r.not_ended, thread_suspended h i, r.not_suspended) (go ((kernel h).threads i).wait refl)
  where
    go : (w : Wait) → ((kernel h).threads i).wait ≡ w → is_free w && true ≡ true
    go free q = refl
    go (on e) q = absurd (r.no_event e (on_waits h i (on e) refl q))
    go (till d) q = absurd (r.no_time d (on_waits h i (till d) refl q))

pub wants_requested : (t : Table) (h : History) (u : ℕ) → is_requested t (kernel h) u ≡ true → Requested t h u
wants_requested t h u q = record {
  there = ltb-true u (updates t) (and_left (ltb u (updates t)) ((kernel h).requested u) q);
  asked = sym (update_requested h u) ∙ and_right (ltb u (updates t)) ((kernel h).requested u) q;
}

pub requested_wants : (t : Table) (h : History) (u : ℕ) → Requested t h u → is_requested t (kernel h) u ≡ true
requested_wants t h u r = rw (lt-ltb u (updates t) r.there, update_requested h u) r.asked
