-- What is due, by the kernel and in words: the least due time, and what is due after serving.
use Prim.Native.Nat.{ℕ, ◌≤◌, ◌<◌}
use mathlib.Core.Path.{◌≡◌, refl, ap, ◌∙◌, sym}
use mathlib.Core.Bool.{Bool, true, false, true≢false}
use mathlib.Core.Logic.{◌⊎◌, inl, inr}
use mathlib.Core.List.{◌++◌}
use native.Mathlib.Omega.{arith}
use borrow.Author.Tests.{lt-ltb, eq-eqb}
use Rattle.std.specs.Prelude.{if◌then◌else◌}
use Rattle.kernel.specs.Search.{Found, none, found, least}
use Rattle.kernel.specs.Design.{Table, threads, events}
use Rattle.kernel.specs.Kernel.{Due, never, delta, at, Wait, free, on, till, Kernel, History, kernel}
use Rattle.kernel.specs.Pending.{due_of, resume_due, time_of, least_time, same_due, served}
use Rattle.kernel.specs.Words.{Work, event, wait, resume, Within, DueAt, Stands}
use Rattle.kernel.specs.Demand.{Rightly}
use Rattle.kernel.proofs.Search.{unfound, lesser_none, lesser_found, least_none, least_low, least_hit}
use Rattle.kernel.proofs.Served.{served_pends, served_due, served_resuming}
use Rattle.kernel.proofs.Measure.{time_at}
use Rattle.kernel.proofs.Words.{pends, pends_one, on_waits, waits_on_lem, thread_resuming}

abbrev pub due_in : Kernel → Work → Due
due_in k (event e) = k.pends e
due_in k (wait i) = due_of (k.threads i).wait
due_in k (resume i) = resume_due (k.threads i).resuming

-- as Stands, by the kernel
pub record Pending (t : Table) (k : Kernel) (d : Due) : Type 0 where
  pub work : Work
  pub within : Within t work
  pub due : due_in k work ≡ d

pub delta_never : delta ≡ never → ⊥
delta_never q = let z : ◌≡◌ {A = ℕ} 0 1 = cc in omega arith

pub at_never : (u : ℕ) → at u ≡ never → ⊥
at_never u q = let z : ◌≡◌ {A = ℕ} 0 1 = cc in omega arith

at_delta : (u : ℕ) → at u ≡ delta → ⊥
at_delta u q = let z : ◌≡◌ {A = ℕ} 0 1 = cc in omega arith

-- The kernel and the words ---------------------------------------------------------------------------------------

pub due_in_lem : (t : Table) (h : History) → Rightly t h → (x : Work) (d : Due) → DueAt h x d → due_in (kernel h) x ≡ d
due_in_lem t h p (event e) d w = pends_one h e ((kernel h).pends e) d (pends h e) w
due_in_lem t h p (wait i) d w = ap due_of (waits_on_lem t i (till d) refl h p w)
due_in_lem t h p (resume i) d w = ap resume_due (thread_resuming h i ∙ w.0) ∙ w.1

pub in_due : (h : History) (x : Work) (d : Due) → (d ≡ never → ⊥) → due_in (kernel h) x ≡ d → DueAt h x d
in_due h (event e) d n q = rw q at (pends h e)
in_due h (wait i) d n q = go ((kernel h).threads i).wait refl q
  where
    go : (w : Wait) → ((kernel h).threads i).wait ≡ w → due_of w ≡ d → DueAt h (wait i) d
    go free z r = absurd (n (sym r))
    go (on e) z r = absurd (n (sym r))
    go (till c) z r = on_waits h i (till d) refl (z ∙ ap till r)
in_due h (resume i) d n q = go ((kernel h).threads i).resuming refl q
  where
    go : (w : Bool) → ((kernel h).threads i).resuming ≡ w → resume_due w ≡ d → DueAt h (resume i) d
    go true z r = (sym (thread_resuming h i) ∙ z, r)
    go false z r = absurd (n (sym r))

pub stands_pending : (t : Table) (h : History) (d : Due) → Rightly t h → Stands t h d → Pending t (kernel h) d
stands_pending t h d p s = record { work = s.work; within = s.within; due = due_in_lem t h p s.work d s.due }

pub pending_stands : (t : Table) (h : History) (d : Due) → (d ≡ never → ⊥) → Pending t (kernel h) d → Stands t h d
pending_stands t h d n s = record { work = s.work; within = s.within; due = in_due h s.work d n s.due }

-- The least due time ---------------------------------------------------------------------------------------------

module _ (t : Table) (k : Kernel) where
  abbrev of_event : ℕ → Found
  of_event e = time_of (k.pends e)

  abbrev of_thread : ℕ → Found
  of_thread i = time_of (due_of (k.threads i).wait)

  no_resume : (b : Bool) (u : ℕ) → resume_due b ≡ at u → ⊥
  no_resume true u q = at_delta u (sym q)
  no_resume false u q = at_never u (sym q)

  pub none_due : least_time t k ≡ none → (u : ℕ) → Pending t k (at u) → ⊥
  unfolding least_time
  none_due q u s = go s.work s.within s.due
    where
      go : (x : Work) → Within t x → due_in k x ≡ at u → ⊥
      go (event e) l w = unfound u (sym (least_none of_event (events t) (lesser_none (least of_event (events t)) (least of_thread (threads t)) q).0 e l) ∙ ap time_of w)
      go (wait i) l w = unfound u (sym (least_none of_thread (threads t) (lesser_none (least of_event (events t)) (least of_thread (threads t)) q).1 i l) ∙ ap time_of w)
      go (resume i) l w = no_resume (k.threads i).resuming u w

  module _ (d : ℕ) (q : least_time t k ≡ found d) where
    pub found_due : Pending t k (at d)
    unfolding least_time
    found_due = go (lesser_found (least of_event (events t)) (least of_thread (threads t)) d q).hit
      where
        go : (least of_event (events t) ≡ found d) ⊎ (least of_thread (threads t) ≡ found d) → Pending t k (at d)
        go (inl w) = let e = least_hit of_event (events t) d w in record { work = event e.0; within = e.1; due = time_at (k.pends e.0) d e.2 }
        go (inr w) = let i = least_hit of_thread (threads t) d w in record { work = wait i.0; within = i.1; due = time_at (due_of (k.threads i.0).wait) d i.2 }

    least_of : (f : ℕ → Found) (n i u : ℕ) → i < n → f i ≡ found u → ((v : ℕ) → least f n ≡ found v → d ≤ v) → d ≤ u
    least_of f n i u l e g = go (least f n) refl
      where
        go : (x : Found) → least f n ≡ x → d ≤ u
        go none z = absurd (unfound u (sym (least_none f n z i l) ∙ e))
        go (found v) z = omega (arith, g v z, least_low f n i l u v e z)

    pub found_first : (u : ℕ) → Pending t k (at u) → d ≤ u
    unfolding least_time
    found_first u s = go s.work s.within s.due
      where
        go : (x : Work) → Within t x → due_in k x ≡ at u → d ≤ u
        go (event e) l w = least_of of_event (events t) e u l (ap time_of w) (lesser_found (least of_event (events t)) (least of_thread (threads t)) d q).left
        go (wait i) l w = least_of of_thread (threads t) i u l (ap time_of w) (lesser_found (least of_event (events t)) (least of_thread (threads t)) d q).right
        go (resume i) l w = absurd (no_resume (k.threads i).resuming u w)

  pub due_none : ((u : ℕ) → Pending t k (at u) → ⊥) → least_time t k ≡ none
  due_none n = go (least_time t k) refl
    where
      go : (x : Found) → least_time t k ≡ x → least_time t k ≡ none
      go none q = q
      go (found d) q = absurd (n d (found_due d q))

  pub due_found : (d : ℕ) → Pending t k (at d) → ((u : ℕ) → Pending t k (at u) → d ≤ u) → least_time t k ≡ found d
  due_found d w f = go (least_time t k) refl
    where
      go : (x : Found) → least_time t k ≡ x → least_time t k ≡ found d
      go none q = absurd (none_due q d w)
      go (found v) q =
          let e : v ≡ d = omega (arith, found_first v q d w, f v (found_due v q)) in
          q ∙ ap found e

-- After serving --------------------------------------------------------------------------------------------------

pub same_self : (d : Due) → (d ≡ never → ⊥) → same_due d d ≡ true
same_self never n = absurd (n refl)
same_self delta n = refl
same_self (at t) n = eq-eqb t t refl

resume_off : (z b : Bool) → resume_due (if z then false else b) ≡ (if z then never else resume_due b)
resume_off true b = refl
resume_off false b = refl

module _ (t : Table) (k : Kernel) (d : Due) (h : History) (a : (kernel h).pends ≡ k.pends) (b : (kernel h).threads ≡ k.threads) where
  pub served_in : (x : Work) → Within t x → due_in (kernel (served t k d ++ h)) x ≡ (if same_due (due_in k x) d then never else due_in k x)
  served_in (event e) l = rw (served_pends t k d h e, lt-ltb e (events t) l, a)
  served_in (wait i) l = rw (served_due t k d h i, lt-ltb i (threads t) l, b)
  served_in (resume i) l = rw (served_resuming t k d h i, lt-ltb i (threads t) l, b, resume_off)

  -- what is due at c after serving was so before, and what was due at d is not any more
  module _ (c : Due) (n : c ≡ never → ⊥) where
    back : (x : Due) → (z : Bool) → (if z then never else x) ≡ c → x ≡ c
    back x true q = absurd (n (sym q))
    back x false q = q

    pub pending_back : Pending t (kernel (served t k d ++ h)) c → Pending t k c
    pending_back s = record {
      work = s.work;
      within = s.within;
      due = back (due_in k s.work) (same_due (due_in k s.work) d) (sym (served_in s.work s.within) ∙ s.due);
    }

  pub pending_gone : (d ≡ never → ⊥) → Pending t (kernel (served t k d ++ h)) d → ⊥
  pending_gone n s = go (same_due (due_in k s.work) d) refl (sym (served_in s.work s.within) ∙ s.due)
    where
      go : (z : Bool) → same_due (due_in k s.work) d ≡ z → (if z then never else due_in k s.work) ≡ d → ⊥
      go true y w = n (sym w)
      go false y w = true≢false (sym (same_self d n) ∙ rw w at y)
