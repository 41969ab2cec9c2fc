-- The numbers show the kernel after all that is due together was served, and the first one. Assumes nothing.
use Prim.Native.Nat.{ℕ, zero, suc, ◌+◌, ◌≤◌, ◌<◌}
use mathlib.Core.Path.{◌≡◌, refl, sym, ap, ◌∙◌}
use mathlib.Core.Bool.{Bool, true, false, not, ◌&&◌}
use mathlib.Core.List.{List, [], ◌∷◌, ◌++◌, map}
use native.Mathlib.Omega.{arith}
use native.Mathlib.Nat.{le_of_suc-le-suc, not-suc-le-zero}
use native.Mathlib.Numerals.{add-one}
use borrow.Author.Tests.{ltb-true, ltb-false, lt-ltb, le-ltb, eq-eqb}
use lib.Dec.{eqb, ltb}
use lib.ListN.{length, get_or, length-map, replicate, length-replicate, get_or-replicate, get_or-eq_default}
use Rattle.std.specs.Prelude.{if◌then◌else◌}
use Rattle.laws.specs.Choice.{true_not_false, and_left, and_right}
use Rattle.sets.specs.Sets.{has, minus, below}
use Rattle.sets.specs.Laws.{has_zero, has_minus, has_full, has_below}
use Rattle.kernel.specs.Search.{Found, none, found, any}
use Rattle.kernel.specs.Design.{Table, threads, events}
use Rattle.kernel.specs.Kernel.{Due, never, delta, at, Wait, free, on, till, waiting, Kernel, kernel, History}
use Rattle.kernel.specs.Pending.{is_free, due_of, time_of, same_due, resume_due, served}
use Rattle.kernel.proofs.Fields.{if_same}
use Rattle.kernel.proofs.Search.{any_none, any_all}
use Rattle.kernel.proofs.Served.{served_wait, served_pends, served_wait_lem, served_suspended, served_resuming, served_ended, served_requested}
use Rattle.marks.specs.declared.Marks.{Marks}
use Rattle.dues.specs.Codes.{for_nothing, moment_of, pend_of}
use Rattle.marks.specs.Marks.{first_marks}
use Rattle.phases.specs.Phases.{cleared_by, freed_by, served_delta, served_time}
use Rattle.dues.specs.Dues.{over_code, due_in}
use Rattle.dues.specs.Laws.{same_pend, time_over, due_at}
use Rattle.phases.specs.Laws.{freed_at, cleared_at, cleared_length}
use Rattle.shows.specs.Shows.{Lists, lists, Kept, kept, is_on, Timed, Few, Shows}
use Rattle.shows.proofs.Parts.{here_or_other, if_in, Waits, Modes, events_change, waits_change, modes_change, requests_change, shows_again}
use Rattle.shows.proofs.Happens.{timed_nothing}

-- Of times alone ---------------------------------------------------------------------------------------------------

-- what is left of x where all that is due at d is over
abbrev over : Due → Due → Due
over d x = if same_due x d then never else x

-- whether a moment is a time is told by its time
same_at : (u : ℕ) (a b : Due) → time_of a ≡ time_of b → same_due a (at u) ≡ same_due b (at u)
same_at u a b e = by a ∙ ap is e ∙ sym (by b)
  where
    is : Found → Bool
    is none = false
    is (found v) = eqb v u

    by : (d : Due) → same_due d (at u) ≡ is (time_of d)
    by never = refl
    by delta = refl
    by (at v) = refl

-- the delta phase is no time
over_delta : (c : ℕ) (x : Due) → Timed c x → Timed c (over delta x)
over_delta c never w = w
over_delta c delta w = record { no_delta = w.no_delta; same = w.same }
over_delta c (at u) w = w

no_delta_left : (x : Due) → false ≡ same_due (over delta x) delta
no_delta_left never = refl
no_delta_left delta = refl
no_delta_left (at u) = refl

-- a time is not the delta phase
delta_left : (u : ℕ) (x : Due) → same_due x delta ≡ same_due (over (at u) x) delta
delta_left u never = refl
delta_left u delta = refl
delta_left u (at v) = go (eqb v u)
  where
    go : (b : Bool) → false ≡ same_due (if b then never else at v) delta
    go true = refl
    go false = refl

over_time : (u c : ℕ) (x : Due) → u ≤ 4294967295 → Timed c x → Timed (over_code (suc u) c) (over (at u) x)
unfolding moment_of over_code
over_time u c x h w = record { no_delta = some (eqb c (suc u)); same = time_over (suc u) c (omega arith) (omega arith) ∙ rw (same_at u (pend_of c) x w.same, w.same) (sym (if_in time_of (same_due x (at u)) never x)) }
  where
    some : (b : Bool) → 0 < (if b then for_nothing else c)
    some true = omega arith
    some false = w.no_delta

-- an element of a mapped list
get_d_map_in : (f : ℕ → ℕ) (l : List ℕ) (i : ℕ) → i < length l → get_or (map f l) i 0 ≡ f (get_or l i 0)
get_d_map_in f [] i h = absurd (not-suc-le-zero h)
get_d_map_in f (x ∷ l) zero h = refl
get_d_map_in f (x ∷ l) (suc i) h = get_d_map_in f l i (le_of_suc-le-suc h)

-- Of waits alone ---------------------------------------------------------------------------------------------------

served_due : (t : Table) (k : Kernel) (d : Due) (w : Wait) → due_of (served_wait t k d w) ≡ over d (due_of w)
served_due t k d free = refl
served_due t k d (on e) = go (ltb e (events t) && same_due (k.pends e) d)
  where
    go : (b : Bool) → due_of (if b then free else on e) ≡ never
    go true = refl
    go false = refl
served_due t k d (till x) = if_in due_of (same_due x d) free (till x)

served_on : (t : Table) (k : Kernel) (d : Due) (e : ℕ) (w : Wait) → e < events t → is_on e (served_wait t k d w) ≡ (if same_due (k.pends e) d then false else is_on e w)
served_on t k d e free h = sym (if_same (same_due (k.pends e) d) false)
served_on t k d e (on f) h =
    if_in (is_on e) (ltb f (events t) && same_due (k.pends f) d) free (on f)
    ∙ here_or_other (λ z. (if ltb f (events t) && same_due (k.pends f) d then false else z) ≡ (if same_due (k.pends e) d then false else z)) f e
    (λ r. rw (r, lt-ltb e (events t) h))
    (λ r. if_same (ltb f (events t) && same_due (k.pends f) d) false ∙ sym (if_same (same_due (k.pends e) d) false))
served_on t k d e (till x) h = if_in (is_on e) (same_due x d) free (till x) ∙ if_same (same_due x d) false ∙ sym (if_same (same_due (k.pends e) d) false)

any_hit : (p : ℕ → Bool) (n i : ℕ) → i < n → p i ≡ true → any p n ≡ true
any_hit p n i h e = go (any p n) refl
  where
    go : (b : Bool) → any p n ≡ b → b ≡ true
    go true q = refl
    go false q = true_not_false (sym e ∙ any_none p n q i h)

and_false : (a : Bool) → a && false ≡ false
and_false true = refl
and_false false = refl

-- What is left for events and for threads --------------------------------------------------------------------------

-- of n that are due at g, a set and numbers that show what is left of that
record Left (d : Due) (n : ℕ) (g : ℕ → Due) (p : ℕ) (cs : List ℕ) : Type 0 where
  deltas : (i : ℕ) → i < n → has p i ≡ same_due (over d (g i)) delta
  times : (i : ℕ) → i < n → Timed (get_or cs i 0) (over d (g i))
  all : length cs ≡ n

module _ (n : ℕ) (g : ℕ → Due) (cs : List ℕ) (w : (i : ℕ) → i < n → Timed (get_or cs i 0) (g i)) (all : length cs ≡ n) where
  left_delta : Left delta n g 0 cs
  left_delta = record {
    deltas = λ i h. has_zero i ∙ no_delta_left (g i);
    times = λ i h. over_delta (get_or cs i 0) (g i) (w i h);
    all = all;
  }

  module _ (u : ℕ) (small : u ≤ 4294967295) where
    left_time : (p : ℕ) → ((i : ℕ) → i < n → has p i ≡ same_due (g i) delta) → Left (at u) n g p (map (over_code (suc u)) cs)
    left_time p e = record {
      deltas = λ i h. e i h ∙ delta_left u (g i);
      times = λ i h. rw (get_d_map_in (over_code (suc u)) cs i (omega arith)) (over_time u (get_or cs i 0) (g i) small (w i h));
      all = length-map cs (over_code (suc u)) ∙ all;
    }

    -- the places that hold the time's number are those due at it
    due_is : n ≤ 32 → (i : ℕ) → i < n → has (due_in (suc u) cs) i ≡ same_due (g i) (at u)
    unfolding moment_of
    due_is l i h =
        due_at (suc u) cs (length cs) i (omega arith)
        ∙ rw (lt-ltb i (length cs) (omega arith)) (sym (same_pend (suc u) (get_or cs i 0) (omega arith)) ∙ same_at u (pend_of (get_or cs i 0)) (g i) (w i h).same)

module _ (t : Table) (k : Kernel) (x : Kept) (s : Shows t k x) where
  abbrev m : Marks
  m = x.marks

  abbrev l : Lists
  l = x.lists

  -- Waits, where ts and es are the threads and the events that are due -----------------------------------------------

  module _ (d : Due) (ts es : ℕ) (th : (i : ℕ) → i < threads t → has ts i ≡ same_due (due_of (k.threads i).wait) d) (ev : (e : ℕ) → e < events t → has es e ≡ same_due (k.pends e) d) where
    -- event e, for which thread i waits, is due
    abbrev frees : ℕ → ℕ → Bool
    frees i e = has es e && has (get_or l.waiters e 0) i

    frees_is : (i e : ℕ) → i < threads t → e < events t → frees i e ≡ (same_due (k.pends e) d && is_on e (k.threads i).wait)
    frees_is i e h g = rw (ev e g, s.waiters e i g h)

    frees_not : (i e : ℕ) → i < threads t → (e < events t → (same_due (k.pends e) d && is_on e (k.threads i).wait) ≡ false) → frees i e ≡ false
    frees_not i e h f = go (ltb e (events t)) refl
      where
        go : (b : Bool) → ltb e (events t) ≡ b → frees i e ≡ false
        go true q = frees_is i e h (ltb-true e (events t) q) ∙ f (ltb-true e (events t) q)
        go false q =
            rw (get_or-eq_default l.waiters 0 {n = e} (omega (arith, s.all_waiters, ltb-false e (events t) q)), has_zero i) (and_false (has es e))

    waiting_left : (i : ℕ) → i < threads t → has (freed_by es l.waiters (minus m.waiting ts)) i ≡ not (is_free (served_wait t k d (k.threads i).wait))
    waiting_left i h =
        let z : i < 32 = omega (arith, s.few.threads) in
        freed_at es l.waiters (minus m.waiting ts) 32 i z
        ∙ rw (has_minus m.waiting ts i z, s.waiting i h, th i h) (go (k.threads i).wait refl)
      where
        none_free : (w : Wait) → (k.threads i).wait ≡ w → ((e : ℕ) → e < events t → (same_due (k.pends e) d && is_on e w) ≡ false) → any (frees i) 32 ≡ false
        none_free w q f = any_all (frees i) 32 (λ e y. frees_not i e h (λ g. rw q (f e g)))

        event : (f : ℕ) → (k.threads i).wait ≡ on f → (z : Bool) → (ltb f (events t) && same_due (k.pends f) d) ≡ z → not (any (frees i) 32) ≡ not (is_free (if z then free else on f))
        event f q true y =
            let g : f < events t = ltb-true f (events t) (and_left (ltb f (events t)) _ y) in
            let c : same_due (k.pends f) d ≡ true = and_right (ltb f (events t)) _ y in
            rw (any_hit (frees i) 32 f (omega (arith, s.few.events)) (frees_is i f h g ∙ rw (c, q, eq-eqb f f refl)))
        event f q false y = rw (none_free (on f) q (λ e g. here_or_other (λ b. (same_due (k.pends e) d && b) ≡ false) f e (λ r. other e g r) (λ r. and_false (same_due (k.pends e) d))))
          where
            other : (e : ℕ) → e < events t → f ≡ e → (same_due (k.pends e) d && true) ≡ false
            other e g r =
                let c : same_due (k.pends e) d ≡ false = rw (lt-ltb f (events t) (omega arith), r) at y in
                rw c

        go : (w : Wait) → (k.threads i).wait ≡ w → ((not (is_free w) && not (same_due (due_of w) d)) && not (any (frees i) 32)) ≡ not (is_free (served_wait t k d w))
        go free q = refl
        go (on f) q = event f q (ltb f (events t) && same_due (k.pends f) d) refl
        go (till y) q = rw (none_free (till y) q (λ e g. and_false (same_due (k.pends e) d))) (by (same_due y d))
          where
            by : (z : Bool) → (not z && true) ≡ not (is_free (if z then free else till y))
            by true = refl
            by false = refl

    waiters_left : (e i : ℕ) → e < events t → i < threads t → has (get_or (cleared_by es l.waiters) e 0) i ≡ is_on e (served_wait t k d (k.threads i).wait)
    waiters_left e i g h =
        rw (cleared_at es 32 l.waiters e, lt-ltb e 32 (omega (arith, s.few.events)), ev e g, served_on t k d e (k.threads i).wait g)
        (if_in (λ y. has y i) (same_due (k.pends e) d) 0 (get_or l.waiters e 0) ∙ rw (has_zero i, s.waiters e i g h))

    -- All of it, where h is the history before, whose kernel differs from k in time alone ------------------------------

    module _ (h : History) (a : (kernel h).pends ≡ k.pends) (b : (kernel h).threads ≡ k.threads) (c : (kernel h).requested ≡ k.requested) where
      abbrev end : Kernel
      end = kernel (served t k d ++ h)

      pends_end : (e : ℕ) → e < events t → end.pends e ≡ over d (k.pends e)
      pends_end e g = served_pends t k d h e ∙ rw (lt-ltb e (events t) g, a)

      due_end : (i : ℕ) → i < threads t → due_of (end.threads i).wait ≡ over d (due_of (k.threads i).wait)
      due_end i g = ap due_of (served_wait_lem t k d h b i g) ∙ served_due t k d (k.threads i).wait

      suspended_end : (i : ℕ) → i < threads t → (end.threads i).suspended ≡ (if same_due (resume_due (k.threads i).resuming) d then false else (k.threads i).suspended)
      suspended_end i g = served_suspended t k d h i ∙ rw (lt-ltb i (threads t) g, b)

      resuming_end : (i : ℕ) → i < threads t → (end.threads i).resuming ≡ (if same_due (resume_due (k.threads i).resuming) d then false else (k.threads i).resuming)
      resuming_end i g = served_resuming t k d h i ∙ rw (lt-ltb i (threads t) g, b)

      shows_end : (p dl su re : ℕ) (ps ws : List ℕ) → Left d (events t) k.pends p ps → Left d (threads t) (λ i. due_of (k.threads i).wait) dl ws
          → ((i : ℕ) → i < threads t → has su i ≡ (if same_due (resume_due (k.threads i).resuming) d then false else (k.threads i).suspended))
          → ((i : ℕ) → i < threads t → has re i ≡ (if same_due (resume_due (k.threads i).resuming) d then false else (k.threads i).resuming))
          → Shows t end (kept (record { waiting = freed_by es l.waiters (minus m.waiting ts); delta = dl; suspended = su; resuming = re; ended = m.ended; requested = m.requested; pending = p }) (lists ps ws (cleared_by es l.waiters)))
      shows_end p dl su re ps ws v w f r =
          let s₁ = events_change t k x s end.pends p ps (λ e g. rw (pends_end e g) (v.deltas e g)) (λ e g. rw (pends_end e g) (v.times e g)) v.all in
          let s₂ = waits_change t _ _ s₁ (λ i. waiting (end.threads i).wait (k.threads i)) (freed_by es l.waiters (minus m.waiting ts)) dl ws (cleared_by es l.waiters) (λ i. refl) waits in
          let s₃ = modes_change t _ _ s₂ end.threads su re m.ended (λ i. refl) modes in
          let s₄ = requests_change t _ _ s₃ end.requested m.requested (λ u g. s.requested u g ∙ sym (served_requested t k d h u ∙ rw c)) s.no_update in
          shows_again t _ _ s₄ end refl refl refl
        where
          waits : Waits t (λ i. (end.threads i).wait) (freed_by es l.waiters (minus m.waiting ts)) dl ws (cleared_by es l.waiters)
          waits = record {
            waiting = λ i g. rw (served_wait_lem t k d h b i g) (waiting_left i g);
            deltas = λ i g. rw (due_end i g) (w.deltas i g);
            waits = λ i g. rw (due_end i g) (w.times i g);
            waiters = λ e i y g. rw (served_wait_lem t k d h b i g) (waiters_left e i y g);
            all_waits = w.all;
            all_waiters = cleared_length es 32 l.waiters ∙ s.all_waiters;
          }

          modes : Modes t end.threads su re m.ended
          modes = record {
            suspended = λ i g. f i g ∙ sym (suspended_end i g);
            resuming = λ i g. r i g ∙ sym (resuming_end i g);
            ended = λ i g. s.ended i g ∙ sym (served_ended t k d h i ∙ rw b);
            no_thread = s.no_thread;
          }

  module _ (h : History) (a : (kernel h).pends ≡ k.pends) (b : (kernel h).threads ≡ k.threads) (c : (kernel h).requested ≡ k.requested) where
    pub serves_delta : Shows t (kernel (served t k delta ++ h)) (kept (served_delta l.waiters m) (lists l.pends l.waits (cleared_by m.pending l.waiters)))
    serves_delta =
        shows_end delta m.delta m.pending s.deltas s.pending h a b c 0 0 (minus m.suspended m.resuming) 0 l.pends l.waits
        (left_delta (events t) k.pends l.pends s.pends s.all_pends)
        (left_delta (threads t) (λ i. due_of (k.threads i).wait) l.waits s.waits s.all_waits)
        (λ i g. has_minus m.suspended m.resuming i (omega (arith, s.few.threads)) ∙ rw (s.suspended i g, s.resuming i g) (taken (k.threads i).suspended (k.threads i).resuming))
        (λ i g. has_zero i ∙ none_left (k.threads i).resuming)
      where
        taken : (a r : Bool) → a && not r ≡ (if same_due (resume_due r) delta then false else a)
        taken a true = and_false a
        taken true false = refl
        taken false false = refl

        none_left : (r : Bool) → false ≡ (if same_due (resume_due r) delta then false else r)
        none_left true = refl
        none_left false = refl

    pub serves_time : (d : ℕ) → d ≤ 4294967295 → Shows t (kernel (served t k (at d) ++ h)) (kept (served_time (d + 1) l.pends l.waits l.waiters m) (lists (map (over_code (d + 1)) l.pends) (map (over_code (d + 1)) l.waits) (cleared_by (due_in (d + 1) l.pends) l.waiters)))
    serves_time d small =
        rw (add-one d)
        (shows_end (at d) (due_in (suc d) l.waits) (due_in (suc d) l.pends)
        (due_is (threads t) (λ i. due_of (k.threads i).wait) l.waits s.waits s.all_waits d small s.few.threads)
        (due_is (events t) k.pends l.pends s.pends s.all_pends d small s.few.events)
        h a b c m.pending m.delta m.suspended m.resuming _ _
        (left_time (events t) k.pends l.pends s.pends s.all_pends d small m.pending s.pending)
        (left_time (threads t) (λ i. due_of (k.threads i).wait) l.waits s.waits s.all_waits d small m.delta s.deltas)
        (λ i g. s.suspended i g ∙ stays (k.threads i).suspended (k.threads i).resuming)
        (λ i g. s.resuming i g ∙ stays (k.threads i).resuming (k.threads i).resuming))
      where
        stays : (a r : Bool) → a ≡ (if same_due (resume_due r) (at d) then false else a)
        stays a true = refl
        stays a false = refl

-- at first no event pends, and no thread waits
pub first_shows : (t : Table) → Few t → Shows t (kernel []) (kept (first_marks (threads t)) (lists (replicate (events t) for_nothing) (replicate (threads t) for_nothing) (replicate (events t) 0)))
unfolding kernel
first_shows t few = record {
  pending = λ e h. has_zero e;
  pends = λ e h. rw (get_or-replicate {A = ℕ} (events t) e for_nothing 0 h) (timed_nothing never refl);
  waiting = λ i h. has_zero i;
  deltas = λ i h. has_zero i;
  waits = λ i h. rw (get_or-replicate {A = ℕ} (threads t) i for_nothing 0 h) (timed_nothing never refl);
  waiters = λ e i g h. rw (get_or-replicate {A = ℕ} (events t) e 0 0 g) (has_zero i);
  suspended = λ i h. has_zero i;
  resuming = λ i h. has_zero i;
  ended = λ i h. there_not i (omega (arith, few.threads)) ∙ rw (lt-ltb i (threads t) h);
  requested = λ u h. has_zero u;
  no_thread = λ i h l. there_not i l ∙ rw (le-ltb i (threads t) h);
  no_update = λ u h l. has_zero u;
  all_pends = length-replicate {A = ℕ} (events t) for_nothing;
  all_waits = length-replicate {A = ℕ} (threads t) for_nothing;
  all_waiters = length-replicate {A = ℕ} (events t) 0;
  few = few;
}
  where
    there_not : (i : ℕ) → i < 32 → has (minus 4294967295 (below (threads t))) i ≡ not (ltb i (threads t))
    there_not i l = has_minus 4294967295 (below (threads t)) i l ∙ rw (has_full i l, has_below (threads t) i l)
