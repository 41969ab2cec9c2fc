-- The numbers show the kernel after each thing that happens, where they are changed as the code changes them. Assumes nothing.
use Prim.Native.Nat.{ℕ, zero, suc, min, ◌≤◌, ◌<◌}
use mathlib.Core.Path.{◌≡◌, refl, sym, ap, ◌∙◌}
use mathlib.Core.Bool.{Bool, true, false, not, ◌&&◌}
use mathlib.Core.List.{List}
use native.Mathlib.Omega.{arith}
use borrow.Author.Tests.{eq-eqb, ne_eqb}
use lib.Dec.{eqb, leb, eqb-suc-zero}
use lib.ListN.{length, get_or, set, length-set}
use lib.Seq.{get_or-set_same, get_or-set_other}
use Rattle.std.specs.Prelude.{if◌then◌else◌}
use Rattle.laws.specs.Choice.{true_not_false}
use Rattle.sets.specs.Sets.{has, minus, with, without}
use Rattle.sets.specs.Laws.{has_zero, has_with, has_without, has_minus}
use Rattle.kernel.specs.Search.{none, edit}
use Rattle.kernel.specs.Design.{Table, threads, events, updates}
use Rattle.kernel.specs.Kernel.{Due, never, delta, at, earlier, Wait, free, on, till, Thread, waiting, standing, ending, free_on, suspending, asks_back, Kernel, with_pends, with_threads, with_requested, triggering}
use Rattle.kernel.specs.Pending.{is_free, due_of, time_of, same_due}
use Rattle.kernel.proofs.Fields.{if_same, field_at, field_same, keeps_suspend, keeps_back}
use Rattle.kernel.proofs.Served.{due_free_on, same_eq}
use Rattle.marks.specs.declared.Marks.{Marks}
use Rattle.dues.specs.Codes.{last_time, for_nothing, moment_of, pend_of}
use Rattle.dues.specs.Dues.{changed, waits_at, asked_code}
use Rattle.marks.specs.Marks.{waits_on, waits_till, asked_for, suspended, resumed, ended_by, requested_by, finished_by}
use Rattle.waits.specs.Waits.{triggered}
use Rattle.dues.specs.Laws.{pend_low, nothing_pends, same_pend, earlier_time}
use Rattle.shows.specs.Shows.{Lists, lists, Kept, kept, is_on, Timed, Shows}
use Rattle.shows.proofs.Parts.{here_or_other, if_in, timed_set, Modes, with_waits, events_change, waits_change, modes_change, requests_change}
pub use Rattle.shows.proofs.Parts.{shows_again}

-- Of times alone ---------------------------------------------------------------------------------------------------

-- the number for nothing, where there is no time
pub timed_nothing : (d : Due) → time_of d ≡ none → Timed for_nothing d
timed_nothing d e = record { no_delta = omega arith; same = ap time_of nothing_pends ∙ sym e }

timed_at : (u : ℕ) → suc u ≤ last_time → Timed (suc u) (at u)
unfolding moment_of
timed_at u h = record { no_delta = omega arith; same = ap time_of (pend_low (suc u) h) }

-- moments later than the delta phase are told by their times
same_time : (a b : Due) → same_due a delta ≡ false → same_due b delta ≡ false → time_of a ≡ time_of b → a ≡ b
same_time never never p q e = refl
same_time never delta p q e = true_not_false q
same_time never (at u) p q e = cc
same_time delta b p q e = true_not_false p
same_time (at t) never p q e = cc
same_time (at t) delta p q e = true_not_false q
same_time (at t) (at u) p q e = cc

asked_delta : (u : ℕ) (d : Due) → same_due (earlier (at u) d) delta ≡ same_due d delta
asked_delta u never = refl
asked_delta u delta = refl
asked_delta u (at v) = go (leb u v)
  where
    go : (b : Bool) → same_due (if b then at u else at v) delta ≡ false
    go true = refl
    go false = refl

-- "The earlier one stays": z says that d is the delta phase
asked_timed : (u c : ℕ) (d : Due) → suc u ≤ last_time → Timed c d → (z : Bool) → same_due d delta ≡ z → Timed (if z then c else min (suc u) c) (earlier (at u) d)
unfolding moment_of
asked_timed u c d h w true e = let q : d ≡ delta = same_eq d delta e in rw q (rw q at w)
asked_timed u c d h w false e =
    let q : pend_of c ≡ d = same_time (pend_of c) d (same_pend 0 c (omega arith) ∙ ne_eqb c 0 (λ z. omega (arith, w.no_delta))) e w.same in
    record { no_delta = omega (arith, w.no_delta); same = earlier_time (suc u) c (omega arith) h w.no_delta ∙ ap (λ (y : Due). time_of (earlier (at u) y)) q }

-- Of waits alone ---------------------------------------------------------------------------------------------------

free_is : (w : Wait) → is_free w ≡ true → w ≡ free
free_is free e = refl
free_is (on f) e = true_not_false (sym e)
free_is (till d) e = true_not_false (sym e)

freed_is : (e : ℕ) (w : Wait) → not (is_free w) && not (is_on e w) ≡ not (is_free (free_on e w))
freed_is e free = refl
freed_is e (on f) = go (eqb f e)
  where
    go : (b : Bool) → not b ≡ not (is_free (if b then free else on f))
    go true = refl
    go false = refl
freed_is e (till d) = refl

left_on : (f e : ℕ) (w : Wait) → is_on f (free_on e w) ≡ (if eqb f e then false else is_on f w)
left_on f e free = sym (if_same (eqb f e) false)
left_on f e (on g) = if_in (is_on f) (eqb g e) free (on g) ∙ here_or_other (λ z. (if eqb g e then false else eqb g f) ≡ (if z then false else eqb g f)) f e
    (λ r. rw r (by (eqb g e)))
    (λ r. here_or_other (λ z. (if z then false else eqb g f) ≡ eqb g f) g e (λ q. sym (ne_eqb g f (λ p. r (sym p ∙ q)))) (λ q. refl))
  where
    by : (b : Bool) → (if b then false else b) ≡ false
    by true = refl
    by false = refl
left_on f e (till d) = sym (if_same (eqb f e) false)

module _ (t : Table) (k : Kernel) (x : Kept) (s : Shows t k x) where
  abbrev m : Marks
  m = x.marks

  abbrev l : Lists
  l = x.lists

  event_fits : (e : ℕ) → e < events t → e < 32
  event_fits e h = omega (arith, s.few.events)

  thread_fits : (i : ℕ) → i < threads t → i < 32
  thread_fits i h = omega (arith, s.few.threads)

  -- Notifications --------------------------------------------------------------------------------------------------

  pub shows_trigger : (e : ℕ) → e < events t → Shows t (triggering e k) (kept (triggered l.waiters e m) (lists (set l.pends e for_nothing) l.waits (set l.waiters e 0)))
  unfolding triggered
  shows_trigger e h =
      waits_change t _ _ dropped (λ i. waiting (free_on e (k.threads i).wait) (k.threads i)) (minus m.waiting (get_or l.waiters e 0)) m.delta l.waits (set l.waiters e 0) (λ i. refl)
      (record {
        waiting = λ i b. has_minus m.waiting (get_or l.waiters e 0) i (thread_fits i b) ∙ rw (s.waiting i b, s.waiters e i h b) (freed_is e (k.threads i).wait);
        deltas = λ i b. rw (due_free_on e (k.threads i).wait) (s.deltas i b);
        waits = λ i b. rw (due_free_on e (k.threads i).wait) (s.waits i b);
        waiters = λ f i a b. rw (left_on f e (k.threads i).wait) (cleared f i a b);
        all_waits = s.all_waits;
        all_waiters = length-set l.waiters e 0 ∙ s.all_waiters;
      })
    where
      dropped : Shows t (with_pends (edit e (λ d. never) k.pends) k) (kept (record { waiting = m.waiting; delta = m.delta; suspended = m.suspended; resuming = m.resuming; ended = m.ended; requested = m.requested; pending = without m.pending e }) (lists (set l.pends e for_nothing) l.waits l.waiters))
      dropped = events_change t k x s (edit e (λ d. never) k.pends) (without m.pending e) (set l.pends e for_nothing)
          (λ j b. has_without m.pending e j (event_fits j b) ∙ rw (s.pending j b) (sym (if_in (λ d. same_due d delta) (eqb j e) never (k.pends j))))
          (timed_set l.pends (events t) e for_nothing (λ d. never) k.pends s.all_pends s.pends (λ c. timed_nothing never refl))
          (length-set l.pends e for_nothing ∙ s.all_pends)

      cleared : (f i : ℕ) → f < events t → i < threads t → has (get_or (set l.waiters e 0) f 0) i ≡ (if eqb f e then false else is_on f (k.threads i).wait)
      cleared f i a b =
          here_or_other (λ z. has (get_or (set l.waiters e 0) f 0) i ≡ (if z then false else is_on f (k.threads i).wait)) f e
          (λ r. rw (r, get_or-set_same l.waiters e 0 0 (omega (arith, s.all_waiters))) (has_zero i))
          (λ r. rw (get_or-set_other l.waiters e f 0 0 r) (s.waiters f i a b))

  pub shows_asks : (e q : ℕ) → e < events t → q ≤ last_time → Shows t (with_pends (edit e (earlier (moment_of q)) k.pends) k) (kept (asked_for q e m) (lists (changed (asked_code (has m.pending e) q) e l.pends) l.waits l.waiters))
  unfolding asked_for asked_code moment_of
  shows_asks e zero h g =
      events_change t k x s (edit e (λ d. delta) k.pends) (with m.pending e) (set l.pends e for_nothing)
      (λ j b. has_with m.pending e j (event_fits j b) ∙ rw (s.pending j b) (sym (if_in (λ d. same_due d delta) (eqb j e) delta (k.pends j))))
      (timed_set l.pends (events t) e for_nothing (λ d. delta) k.pends s.all_pends s.pends (λ c. timed_nothing delta refl))
      (length-set l.pends e for_nothing ∙ s.all_pends)
  shows_asks e (suc u) h g =
      rw (eqb-suc-zero u)
      (events_change t k x s (edit e (earlier (at u)) k.pends) m.pending (set l.pends e _)
      (λ j b. s.pending j b ∙ sym (if_in (λ d. same_due d delta) (eqb j e) (earlier (at u) (k.pends j)) (k.pends j) ∙ rw (asked_delta u (k.pends j)) (if_same (eqb j e) (same_due (k.pends j) delta))))
      (timed_set l.pends (events t) e _ (earlier (at u)) k.pends s.all_pends s.pends (λ c. asked_timed u (get_or l.pends e 0) (k.pends e) g (s.pends e c) (has m.pending e) (sym (s.pending e c))))
      (length-set l.pends e _ ∙ s.all_pends))

  -- Updates --------------------------------------------------------------------------------------------------------

  update_fits : (u : ℕ) → u < updates t → u < 32
  update_fits u h = omega (arith, s.few.updates)

  pub shows_requests : (u : ℕ) → u < updates t → Shows t (with_requested (edit u (λ r. true) k.requested) k) (kept (requested_by u m) l)
  shows_requests u h =
      requests_change t k x s (edit u (λ r. true) k.requested) (with m.requested u)
      (λ v b. has_with m.requested u v (update_fits v b) ∙ rw (s.requested v b))
      (λ v a b. has_with m.requested u v b ∙ rw (ne_eqb v u (λ r. omega arith)) (s.no_update v a b))

  pub shows_finishes : (u : ℕ) → Shows t (with_requested (edit u (λ r. false) k.requested) k) (kept (finished_by u m) l)
  shows_finishes u =
      requests_change t k x s (edit u (λ r. false) k.requested) (without m.requested u)
      (λ v b. has_without m.requested u v (update_fits v b) ∙ rw (s.requested v b))
      (λ v a b. has_without m.requested u v b ∙ rw (s.no_update v a b) (if_same (eqb v u) false))

  -- Waits ----------------------------------------------------------------------------------------------------------

  -- thread i waits for w, and no other wait changes
  one_waits : (i : ℕ) (w : Wait) → is_free w ≡ false → (d : ℕ) (ws wt : List ℕ)
      → ((j : ℕ) → j < threads t → has d j ≡ (if eqb j i then same_due (due_of w) delta else same_due (due_of (k.threads j).wait) delta))
      → ((j : ℕ) → j < threads t → Timed (get_or ws j 0) (if eqb j i then due_of w else due_of (k.threads j).wait))
      → ((e j : ℕ) → e < events t → j < threads t → has (get_or wt e 0) j ≡ (if eqb j i then is_on e w else is_on e (k.threads j).wait)) → length ws ≡ threads t → length wt ≡ events t
      → Shows t (with_threads (edit i (waiting w) k.threads) k) (kept (with_waits (with m.waiting i) d m) (lists l.pends ws wt))
  one_waits i w f d ws wt a b c p q =
      waits_change t k x s (edit i (waiting w) k.threads) (with m.waiting i) d ws wt (λ j. same (eqb j i) (k.threads j))
      (record {
        waiting = λ j h. has_with m.waiting i j (thread_fits j h) ∙ rw (s.waiting j h) (sym (at_place j (λ y. not (is_free y)) ∙ rw f));
        deltas = λ j h. a j h ∙ sym (at_place j (λ y. same_due (due_of y) delta));
        waits = λ j h. rw (at_place j due_of) (b j h);
        waiters = λ e j g h. c e j g h ∙ sym (at_place j (is_on e));
        all_waits = p;
        all_waiters = q;
      })
    where
      same : (z : Bool) (y : Thread) → (if z then waiting w y else y) ≡ waiting (if z then waiting w y else y).wait y
      same true y = refl
      same false y = refl

      at_place : {A : Type 0} (j : ℕ) (g : Wait → A) → g (edit i (waiting w) k.threads j).wait ≡ (if eqb j i then g w else g (k.threads j).wait)
      at_place j g = field_at (λ y. g y.wait) (eqb j i) (waiting w (k.threads j)) (k.threads j)

  -- what stays as it is, of a thread that waited for nothing
  module _ (i : ℕ) (f : is_free (k.threads i).wait ≡ true) where
    was : {A : Type 0} (g : Wait → A) (j : ℕ) → j ≡ i → g (k.threads j).wait ≡ g free
    was g j r = rw r (ap g (free_is (k.threads i).wait f))

    no_delta : (d : Due) → same_due d delta ≡ false → (j : ℕ) → j < threads t → has m.delta j ≡ (if eqb j i then same_due d delta else same_due (due_of (k.threads j).wait) delta)
    no_delta d e j h =
        here_or_other (λ z. has m.delta j ≡ (if z then same_due d delta else same_due (due_of (k.threads j).wait) delta)) j i
        (λ r. s.deltas j h ∙ was (λ y. same_due (due_of y) delta) j r ∙ sym e)
        (λ r. s.deltas j h)

    no_time : (d : Due) → time_of d ≡ none → (j : ℕ) → j < threads t → Timed (get_or l.waits j 0) (if eqb j i then d else due_of (k.threads j).wait)
    no_time d e j h =
        here_or_other (λ z. Timed (get_or l.waits j 0) (if z then d else due_of (k.threads j).wait)) j i
        (λ r. record { no_delta = (s.waits j h).no_delta; same = (s.waits j h).same ∙ was (λ y. time_of (due_of y)) j r ∙ sym e })
        (λ r. s.waits j h)

    no_event : (e j : ℕ) → e < events t → j < threads t → has (get_or l.waiters e 0) j ≡ (if eqb j i then false else is_on e (k.threads j).wait)
    no_event e j g h =
        here_or_other (λ z. has (get_or l.waiters e 0) j ≡ (if z then false else is_on e (k.threads j).wait)) j i
        (λ r. s.waiters e j g h ∙ was (is_on e) j r)
        (λ r. s.waiters e j g h)

  pub shows_waits_on : (i e : ℕ) → i < threads t → e < events t → is_free (k.threads i).wait ≡ true → Shows t (with_threads (edit i (waiting (on e)) k.threads) k) (kept (waits_on i m) (lists l.pends l.waits (set l.waiters e (with (get_or l.waiters e 0) i))))
  shows_waits_on i e h g f =
      one_waits i (on e) refl m.delta l.waits (set l.waiters e (with (get_or l.waiters e 0) i)) (no_delta i f never refl) (no_time i f never refl) joined s.all_waits
      (length-set l.waiters e _ ∙ s.all_waiters)
    where
      joined : (c j : ℕ) → c < events t → j < threads t → has (get_or (set l.waiters e (with (get_or l.waiters e 0) i)) c 0) j ≡ (if eqb j i then eqb e c else is_on c (k.threads j).wait)
      joined c j a b =
          here_or_other (λ z. has (get_or (set l.waiters e (with (get_or l.waiters e 0) i)) c 0) j ≡ (if eqb j i then eqb e c else is_on c (k.threads j).wait)) c e
          (λ r. rw (r, get_or-set_same l.waiters e (with (get_or l.waiters e 0) i) 0 (omega (arith, s.all_waiters)), eq-eqb e e refl) (has_with (get_or l.waiters e 0) i j (thread_fits j b) ∙ rw (s.waiters e j g b)))
          (λ r. rw (get_or-set_other l.waiters e c (with (get_or l.waiters e 0) i) 0 r, ne_eqb e c (λ p. r (sym p))) (no_event i f c j a b))

  pub shows_waits_till : (i q : ℕ) → i < threads t → q ≤ last_time → is_free (k.threads i).wait ≡ true → Shows t (with_threads (edit i (waiting (till (moment_of q))) k.threads) k) (kept (waits_till q i m) (lists l.pends (waits_at q i l.waits) l.waiters))
  unfolding waits_till waits_at moment_of
  shows_waits_till i zero h g f =
      one_waits i (till delta) refl (with m.delta i) l.waits l.waiters
      (λ j b. has_with m.delta i j (thread_fits j b) ∙ rw (s.deltas j b))
      (no_time i f delta refl) (no_event i f) s.all_waits s.all_waiters
  shows_waits_till i (suc u) h g f =
      rw (eqb-suc-zero u)
      (one_waits i (till (at u)) refl m.delta (set l.waits i (suc u)) l.waiters (no_delta i f (at u) refl)
      (timed_set l.waits (threads t) i (suc u) (λ d. at u) (λ j. due_of (k.threads j).wait) s.all_waits s.waits (λ c. timed_at u g))
      (no_event i f) (length-set l.waits i (suc u) ∙ s.all_waits) s.all_waiters)

  -- Suspend, resume, the end -----------------------------------------------------------------------------------------

  -- a thread whose wait stays; where the code changes no mark, the thread stays as it is
  pub shows_suspends : (i : ℕ) → Shows t (with_threads (edit i suspending k.threads) k) (kept (suspended i m) l)
  unfolding suspended
  shows_suspends i = go (has m.ended i) refl
    where
      ended_as : (z : Bool) → has m.ended i ≡ z → (j : ℕ) → j < threads t → j ≡ i → (k.threads j).ended ≡ z
      ended_as z e j h r = sym (s.ended j h) ∙ rw r e

      kept_wait : (j : ℕ) → (edit i suspending k.threads j).wait ≡ (k.threads j).wait
      kept_wait j = field_same (λ y. y.wait) (eqb j i) (suspending (k.threads j)) (k.threads j) (keeps_suspend (λ y. y.wait) (k.threads j) refl)

      kept_end : (j : ℕ) → (edit i suspending k.threads j).ended ≡ (k.threads j).ended
      kept_end j = field_same (λ y. y.ended) (eqb j i) (suspending (k.threads j)) (k.threads j) (keeps_suspend (λ y. y.ended) (k.threads j) refl)

      nothing_new : (z : has m.ended i ≡ true) → (j : ℕ) → j < threads t → edit i suspending k.threads j ≡ k.threads j
      nothing_new z j h = here_or_other (λ b. (if b then suspending (k.threads j) else k.threads j) ≡ k.threads j) j i (λ r. rw (ended_as true z j h r)) (λ r. refl)

      go : (z : Bool) → has m.ended i ≡ z → Shows t (with_threads (edit i suspending k.threads) k) (kept (if z then m else record { waiting = m.waiting; delta = m.delta; suspended = with m.suspended i; resuming = without m.resuming i; ended = m.ended; requested = m.requested; pending = m.pending }) l)
      go true z = modes_change t k x s (edit i suspending k.threads) m.suspended m.resuming m.ended kept_wait
          (record {
            suspended = λ j h. rw (nothing_new z j h) (s.suspended j h);
            resuming = λ j h. rw (nothing_new z j h) (s.resuming j h);
            ended = λ j h. rw (kept_end j) (s.ended j h);
            no_thread = s.no_thread;
          })
      go false z = modes_change t k x s (edit i suspending k.threads) (with m.suspended i) (without m.resuming i) m.ended kept_wait
          (record {
            suspended = λ j h. has_with m.suspended i j (thread_fits j h) ∙ rw (s.suspended j h) (here_or_other (λ b. (if b then true else (k.threads j).suspended) ≡ (if b then suspending (k.threads j) else k.threads j).suspended) j i (λ r. rw (ended_as false z j h r)) (λ r. refl));
            resuming = λ j h. has_without m.resuming i j (thread_fits j h) ∙ rw (s.resuming j h) (here_or_other (λ b. (if b then false else (k.threads j).resuming) ≡ (if b then suspending (k.threads j) else k.threads j).resuming) j i (λ r. rw (ended_as false z j h r)) (λ r. refl));
            ended = λ j h. rw (kept_end j) (s.ended j h);
            no_thread = s.no_thread;
          })

  pub shows_resumes : (i : ℕ) → Shows t (with_threads (edit i asks_back k.threads) k) (kept (resumed i m) l)
  unfolding resumed
  shows_resumes i = go (has m.suspended i && not (has m.ended i)) refl
    where
      kept_as : {A : Type 0} (g : Thread → A) (j : ℕ) → g (standing (k.threads j).suspended true (k.threads j)) ≡ g (k.threads j) → g (edit i asks_back k.threads j) ≡ g (k.threads j)
      kept_as g j e = field_same g (eqb j i) (asks_back (k.threads j)) (k.threads j) (keeps_back g (k.threads j) e)

      told : (z : Bool) → (has m.suspended i && not (has m.ended i)) ≡ z → (j : ℕ) → j < threads t → j ≡ i → ((k.threads j).suspended && not (k.threads j).ended) ≡ z
      told z e j h r = rw (← s.suspended j h, ← s.ended j h, r) e

      marks_of : (re : ℕ) → ((j : ℕ) → j < threads t → has re j ≡ (edit i asks_back k.threads j).resuming) → Modes t (edit i asks_back k.threads) m.suspended re m.ended
      marks_of re c = record {
        suspended = λ j h. rw (kept_as (λ y. y.suspended) j refl) (s.suspended j h);
        resuming = c;
        ended = λ j h. rw (kept_as (λ y. y.ended) j refl) (s.ended j h);
        no_thread = s.no_thread;
      }

      go : (z : Bool) → (has m.suspended i && not (has m.ended i)) ≡ z → Shows t (with_threads (edit i asks_back k.threads) k) (kept (if z then record { waiting = m.waiting; delta = m.delta; suspended = m.suspended; resuming = with m.resuming i; ended = m.ended; requested = m.requested; pending = m.pending } else m) l)
      go true z = modes_change t k x s (edit i asks_back k.threads) m.suspended (with m.resuming i) m.ended (λ j. kept_as (λ y. y.wait) j refl)
          (marks_of (with m.resuming i) (λ j h. has_with m.resuming i j (thread_fits j h) ∙ rw (s.resuming j h) (here_or_other (λ b. (if b then true else (k.threads j).resuming) ≡ (if b then asks_back (k.threads j) else k.threads j).resuming) j i (λ r. rw (told true z j h r)) (λ r. refl))))
      go false z = modes_change t k x s (edit i asks_back k.threads) m.suspended m.resuming m.ended (λ j. kept_as (λ y. y.wait) j refl)
          (marks_of m.resuming (λ j h. s.resuming j h ∙ here_or_other (λ b. (k.threads j).resuming ≡ (if b then asks_back (k.threads j) else k.threads j).resuming) j i (λ r. rw (told false z j h r)) (λ r. refl)))

  pub shows_ends : (i : ℕ) → Shows t (with_threads (edit i ending k.threads) k) (kept (ended_by i m) l)
  shows_ends i =
      modes_change t k x s (edit i ending k.threads) m.suspended m.resuming (with m.ended i) (λ j. field_same (λ y. y.wait) (eqb j i) (ending (k.threads j)) (k.threads j) refl)
      (record {
        suspended = λ j h. s.suspended j h ∙ sym (field_same (λ y. y.suspended) (eqb j i) (ending (k.threads j)) (k.threads j) refl);
        resuming = λ j h. s.resuming j h ∙ sym (field_same (λ y. y.resuming) (eqb j i) (ending (k.threads j)) (k.threads j) refl);
        ended = λ j h. has_with m.ended i j (thread_fits j h) ∙ rw (s.ended j h) (sym (field_at (λ y. y.ended) (eqb j i) (ending (k.threads j)) (k.threads j)));
        no_thread = λ j h b. has_with m.ended i j b ∙ rw (s.no_thread j h b) (if_same (eqb j i) true);
      })
