-- How much the kernel has left to do: the due times that stand and the updates requested. An instruction adds one at most; an update that reaches
-- its end, and a move of time, take one away.
use Prim.Native.Nat.{ℕ, suc, ◌+◌, ◌≤◌, ◌<◌}
use mathlib.Core.Path.{◌≡◌, refl, ap}
use mathlib.Core.List.{◌++◌}
use mathlib.Core.Bool.{Bool, true, false, ◌&&◌}
use mathlib.Core.Logic.{◌⊎◌, inl, inr}
use native.Mathlib.Omega.{arith}
use lib.Dec.{ltb, eqb}
use borrow.Author.Tests.{lt-ltb, eq-eqb, ne_eqb}
use Rattle.std.specs.Prelude.{if◌then◌else◌}
use Rattle.word.specs.Word.{flag}
use Rattle.kernel.specs.Search.{found, least, sum, edit}
use Rattle.kernel.specs.Design.{Table, Body, main, thread, update, threads, events, updates}
use Rattle.kernel.specs.Kernel.{Due, never, delta, at, earlier, Thread, waiting, ending, suspending, asks_back, Kernel, with_threads, Deed, nothing, reads, notifies, asks, waits, requests, suspends, resumes, ran, triggered, ended, finished, History, after, kernel}
use Rattle.kernel.specs.Pending.{due_of, is_time, times_of, same_due, served, time_of, least_time}
use Rattle.kernel.proofs.Search.{unfound, sum_le, sum_lt, sum_one, lesser_found, least_hit}
use Rattle.kernel.proofs.Fields.{field_same, keeps_suspend, keeps_back}
use Rattle.kernel.proofs.Served.{due_free_on, due_at, served_pends, served_due, served_requested}

pub time_one : (d : Due) → is_time d ≤ 1
time_one never = omega arith
time_one delta = omega arith
time_one (at t) = omega arith

flag_one : (b : Bool) → flag b ≤ 1
flag_one true = omega arith
flag_one false = omega arith

time_off : (b : Bool) (d : Due) → is_time (if b then never else d) ≤ is_time d
time_off true d = omega arith
time_off false d = omega arith

flag_off : (b c : Bool) → flag (if b then false else c) ≤ flag c
flag_off true c = omega arith
flag_off false c = omega arith

le_eq : (a b : ℕ) → a ≡ b → a ≤ b
le_eq a b q = omega arith

pub time_at : (x : Due) (d : ℕ) → time_of x ≡ found d → x ≡ at d
time_at never d q = absurd (unfound d q)
time_at delta d q = absurd (unfound d q)
time_at (at u) d q = let z : u ≡ d = cc in ap at z

abbrev thread_time : Thread → ℕ
thread_time s = is_time (due_of s.wait)

module _ (t : Table) where
  abbrev event_load : (ℕ → Due) → ℕ
  event_load f = sum (λ e. is_time (f e)) (events t)

  abbrev thread_load : (ℕ → Thread) → ℕ
  thread_load f = sum (λ i. thread_time (f i)) (threads t)

  abbrev update_load : (ℕ → Bool) → ℕ
  update_load f = sum (λ u. flag (f u)) (updates t)

  unfoldable pub load : Kernel → ℕ
  load k = times_of t k + update_load k.requested

  pub load_is : (k : Kernel) → load k ≡ event_load k.pends + thread_load k.threads + update_load k.requested
  unfolding load times_of
  load_is k = refl

  pub load_le : (k c : Kernel) → ((e : ℕ) → is_time (c.pends e) ≤ is_time (k.pends e)) → ((i : ℕ) → thread_time (c.threads i) ≤ thread_time (k.threads i)) → ((u : ℕ) → flag (c.requested u) ≤ flag (k.requested u)) → load c ≤ load k
  load_le k c a b d =
      let x : event_load c.pends ≤ event_load k.pends = sum_le _ _ a (events t) in
      let y : thread_load c.threads ≤ thread_load k.threads = sum_le _ _ b (threads t) in
      let z : update_load c.requested ≤ update_load k.requested = sum_le _ _ d (updates t) in
      rw (load_is k, load_is c) (omega arith)

  load_thread : (k : Kernel) (i : ℕ) (f : Thread → Thread) → ((s : Thread) → (f s).wait ≡ s.wait) → load (with_threads (edit i f k.threads) k) ≤ load k
  load_thread k i f q =
      load_le k _ (λ e. omega arith)
      (λ n. le_eq _ _ (field_same thread_time (eqb n i) (f (k.threads n)) (k.threads n) (rw (q (k.threads n)))))
      (λ u. omega arith)

  load_trigger : (k : Kernel) (e : ℕ) → load (after (triggered e) k) ≤ load k
  unfolding after
  load_trigger k e =
      load_le k _ (λ n. time_off (eqb n e) (k.pends n)) (λ i. le_eq _ _ (ap is_time (due_free_on e (k.threads i).wait))) (λ u. omega arith)

  -- an instruction adds one at most
  pub load_ran : (k : Kernel) (b : Body) (x : Deed) → load (after (ran b x) k) ≤ suc (load k)
  unfolding after
  load_ran k b nothing = omega arith
  load_ran k b reads = omega arith
  load_ran k b (notifies e) = let h : load (after (triggered e) k) ≤ load k = load_trigger k e in omega arith
  load_ran k b (asks e d) =
      let x : event_load (edit e (λ p. earlier d p) k.pends) ≤ suc (event_load k.pends) = sum_one _ _ e (λ i n. rw (ne_eqb i e n) (omega arith)) (omega (arith, time_one (edit e (λ p. earlier d p) k.pends e))) (events t) in
      rw (load_is k, load_is (after (ran b (asks e d)) k)) (omega arith)
  load_ran k main (waits w) = omega arith
  load_ran k (update u) (waits w) = omega arith
  load_ran k (thread i) (waits w) =
      let x : thread_load (edit i (waiting w) k.threads) ≤ suc (thread_load k.threads) = sum_one _ _ i (λ n q. rw (ne_eqb n i q) (omega arith)) (omega (arith, time_one (due_of (edit i (waiting w) k.threads i).wait))) (threads t) in
      rw (load_is k, load_is (after (ran (thread i) (waits w)) k)) (omega arith)
  load_ran k b (requests u) =
      let x : update_load (edit u (λ r. true) k.requested) ≤ suc (update_load k.requested) = sum_one _ _ u (λ n q. rw (ne_eqb n u q) (omega arith)) (omega (arith, flag_one (edit u (λ r. true) k.requested u))) (updates t) in
      rw (load_is k, load_is (after (ran b (requests u)) k)) (omega arith)
  load_ran k b (suspends i) =
      let h : load (after (ran b (suspends i)) k) ≤ load k = load_thread k i suspending (λ s. keeps_suspend (λ s. s.wait) s refl) in
      omega arith
  load_ran k b (resumes i) =
      let h : load (after (ran b (resumes i)) k) ≤ load k = load_thread k i asks_back (λ s. keeps_back (λ s. s.wait) s refl) in
      omega arith

  pub load_ended : (k : Kernel) (i : ℕ) → load (after (ended i) k) ≤ load k
  unfolding after
  load_ended k i = load_thread k i ending (λ s. refl)

  pub load_finished : (k : Kernel) (u : ℕ) → u < updates t → k.requested u ≡ true → load (after (finished u) k) < load k
  unfolding after
  load_finished k u l q =
      let x : update_load (edit u (λ r. false) k.requested) < update_load k.requested = sum_lt _ _ (λ i. flag_off (eqb i u) (k.requested i)) u (rw (eq-eqb u u refl, q) (omega arith)) (updates t) l in
      rw (load_is k, load_is (after (finished u) k)) (omega arith)

  -- serving adds none, and takes one away where a time is due then
  module _ (k : Kernel) (d : Due) (h : History) (a : (kernel h).pends ≡ k.pends) (b : (kernel h).threads ≡ k.threads) (c : (kernel h).requested ≡ k.requested) where
    abbrev rest : Kernel
    rest = kernel (served t k d ++ h)

    ev : (e : ℕ) → is_time (rest.pends e) ≤ is_time (k.pends e)
    ev e = rw (served_pends t k d h e, a) (time_off (ltb e (events t) && same_due (k.pends e) d) (k.pends e))

    th : (i : ℕ) → thread_time (rest.threads i) ≤ thread_time (k.threads i)
    th i = rw (served_due t k d h i, b) (time_off (ltb i (threads t) && same_due (due_at i k) d) (due_at i k))

    up : (u : ℕ) → flag (rest.requested u) ≤ flag (k.requested u)
    up u = rw (served_requested t k d h u, c) (omega arith)

    pub load_served : load (kernel (served t k d ++ h)) ≤ load k
    load_served = load_le k rest ev th up

  module _ (k : Kernel) (d : ℕ) (h : History) (a : (kernel h).pends ≡ k.pends) (b : (kernel h).threads ≡ k.threads) (c : (kernel h).requested ≡ k.requested) where
    abbrev rest_at : Kernel
    rest_at = kernel (served t k (at d) ++ h)

    ev_hit : (e : ℕ) → e < events t → k.pends e ≡ at d → is_time (rest_at.pends e) < is_time (k.pends e)
    ev_hit e l w = rw (served_pends t k (at d) h e, lt-ltb e (events t) l, w, eq-eqb d d refl) (omega arith)

    th_hit : (i : ℕ) → i < threads t → due_at i k ≡ at d → thread_time (rest_at.threads i) < thread_time (k.threads i)
    th_hit i l w = rw (served_due t k (at d) h i, lt-ltb i (threads t) l, w, eq-eqb d d refl) (omega arith)

    by_hit : (least (λ e. time_of (k.pends e)) (events t) ≡ found d) ⊎ (least (λ i. time_of (due_at i k)) (threads t) ≡ found d) → load rest_at < load k
    by_hit (inl w) =
        let e = least_hit (λ e. time_of (k.pends e)) (events t) d w in
        let x : event_load rest_at.pends < event_load k.pends = sum_lt _ _ (ev k (at d) h a b c) e.0 (ev_hit e.0 e.1 (time_at (k.pends e.0) d e.2)) (events t) e.1 in
        let y : thread_load rest_at.threads ≤ thread_load k.threads = sum_le _ _ (th k (at d) h a b c) (threads t) in
        let z : update_load rest_at.requested ≤ update_load k.requested = sum_le _ _ (up k (at d) h a b c) (updates t) in
        rw (load_is k, load_is rest_at) (omega arith)
    by_hit (inr w) =
        let i = least_hit (λ i. time_of (due_at i k)) (threads t) d w in
        let x : event_load rest_at.pends ≤ event_load k.pends = sum_le _ _ (ev k (at d) h a b c) (events t) in
        let y : thread_load rest_at.threads < thread_load k.threads = sum_lt _ _ (th k (at d) h a b c) i.0 (th_hit i.0 i.1 (time_at (due_at i.0 k) d i.2)) (threads t) i.1 in
        let z : update_load rest_at.requested ≤ update_load k.requested = sum_le _ _ (up k (at d) h a b c) (updates t) in
        rw (load_is k, load_is rest_at) (omega arith)

    pub load_moved : least_time t k ≡ found d → load (kernel (served t k (at d) ++ h)) < load k
    unfolding least_time
    load_moved q =
        by_hit (lesser_found (least (λ e. time_of (k.pends e)) (events t)) (least (λ i. time_of (due_at i k)) (threads t)) d q).hit
