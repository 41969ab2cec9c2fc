-- What the kernel is after all that was due at one time was served.
use Prim.Native.Nat.{ℕ, zero, suc, ◌<◌}
use mathlib.Core.Path.{◌≡◌, refl, sym, ap, ◌∙◌}
use mathlib.Core.List.{◌++◌, append_assoc}
use mathlib.Core.Bool.{Bool, true, false, ◌&&◌, false≢true}
use native.Mathlib.Omega.{arith}
use lib.Dec.{ltb, eqb}
use borrow.Author.Tests.{ltb-true, ltb-false, lt-ltb, le-ltb, eqb-true, eqb-false}
use Rattle.std.specs.Prelude.{if◌then◌else◌}
use Rattle.kernel.specs.Search.{add_if, each}
use Rattle.kernel.specs.Design.{Table, threads, events}
use Rattle.kernel.specs.Kernel.{Due, never, delta, at, Wait, free, on, till, Thread, waiting, standing, free_on, free_timed, Kernel, Happening, triggered, freed, resumed, History, after, kernel}
use Rattle.kernel.specs.Pending.{due_of, same_due, resume_due, served}
use Rattle.kernel.proofs.Fields.{if_same, field_at, field_same}

-- a wait after the events below n that pass the test have triggered
abbrev triggers_free : (ℕ → Bool) → ℕ → Wait → Wait
triggers_free p n free = free
triggers_free p n (on e) = if ltb e n && p e then free else on e
triggers_free p n (till d) = till d

-- the wait of a thread of the design after all that is due at d was served
abbrev pub served_wait : Table → Kernel → Due → Wait → Wait
served_wait t k d free = free
served_wait t k d (on e) = if ltb e (events t) && same_due (k.pends e) d then free else on e
served_wait t k d (till x) = if same_due x d then free else till x

-- place i is below n + 1 if it is n or below n
one_more : {A : Type 0} (p : ℕ → Bool) (i n : ℕ) (f : A → A) (x : A)
    → (if ltb i (suc n) && p i then f x else x) ≡ (if p n && eqb i n then f (if ltb i n && p i then f x else x) else (if ltb i n && p i then f x else x))
one_more p i n f x = go (eqb i n) refl (p n) refl
  where
    same_test : (i ≡ n → ⊥) → ltb i (suc n) ≡ ltb i n
    same_test q = by (ltb i n) refl
      where
        by : (b : Bool) → ltb i n ≡ b → ltb i (suc n) ≡ b
        by true w = lt-ltb i (suc n) (omega (arith, ltb-true))
        by false w = le-ltb i (suc n) (omega (arith, ltb-false, q))

    go : (c : Bool) → eqb i n ≡ c → (b : Bool) → p n ≡ b
        → (if ltb i (suc n) && p i then f x else x) ≡ (if b && c then f (if ltb i n && p i then f x else x) else (if ltb i n && p i then f x else x))
    go true e b w = let q : i ≡ n = eqb-true i n e in rw (q, w, le-ltb n n (omega arith), lt-ltb n (suc n) (omega arith)) (by b)
      where
        by : (b : Bool) → (if b then f x else x) ≡ (if b && true then f x else x)
        by true = refl
        by false = refl
    go false e true w = rw (same_test (eqb-false i n e))
    go false e false w = rw (same_test (eqb-false i n e))

-- what no f n changes; what f n changes by g where n is i
module _ {A : Type 0} (get : Kernel → A) (f : ℕ → Happening) where
  pub each_skip : ((n : ℕ) (k : Kernel) → get (after (f n) k) ≡ get k) → (p : ℕ → Bool) (n : ℕ) (h : History) → get (kernel (each p f n ++ h)) ≡ get (kernel h)
  unfolding each kernel
  each_skip s p zero h = refl
  each_skip s p (suc n) h = go (p n) (each_skip s p n h)
    where
      go : (b : Bool) → get (kernel (each p f n ++ h)) ≡ get (kernel h) → get (kernel (add_if b (f n) (each p f n) ++ h)) ≡ get (kernel h)
      go true r = s n (kernel (each p f n ++ h)) ∙ r
      go false r = r

  pub each_hit : (i : ℕ) (g : A → A) → ((n : ℕ) (k : Kernel) → get (after (f n) k) ≡ (if eqb i n then g (get k) else get k)) → (p : ℕ → Bool) (n : ℕ) (h : History)
      → get (kernel (each p f n ++ h)) ≡ (if ltb i n && p i then g (get (kernel h)) else get (kernel h))
  unfolding each kernel
  each_hit i g s p zero h = rw (le-ltb i 0 (omega arith))
  each_hit i g s p (suc n) h = rw (one_more p i n g (get (kernel h)), ← each_hit i g s p n h) (go (p n))
    where
      go : (b : Bool) → get (kernel (add_if b (f n) (each p f n) ++ h)) ≡ (if b && eqb i n then g (get (kernel (each p f n ++ h))) else get (kernel (each p f n ++ h)))
      go true = s n (kernel (each p f n ++ h))
      go false = refl

-- waits on events, as the events trigger
free_more : (p : ℕ → Bool) (n : ℕ) (w : Wait) → triggers_free p (suc n) w ≡ (if p n then free_on n (triggers_free p n w) else triggers_free p n w)
free_more p n free = sym (if_same (p n) free)
free_more p n (on e) = one_more p e n (λ w. free) (on e) ∙ go (p n) (ltb e n && p e)
  where
    go : (b c : Bool) → (if b && eqb e n then free else (if c then free else on e)) ≡ (if b then free_on n (if c then free else on e) else (if c then free else on e))
    go true true = if_same (eqb e n) free
    go true false = refl
    go false c = refl
free_more p n (till d) = sym (if_same (p n) (till d))

each_wait : (i : ℕ) (p : ℕ → Bool) (n : ℕ) (h : History) → ((kernel (each p triggered n ++ h)).threads i).wait ≡ triggers_free p n ((kernel h).threads i).wait
unfolding each kernel after
each_wait i p zero h = go ((kernel h).threads i).wait
  where
    go : (w : Wait) → w ≡ triggers_free p 0 w
    go free = refl
    go (on e) = rw (le-ltb e 0 (omega arith))
    go (till d) = refl
each_wait i p (suc n) h = rw (free_more p n ((kernel h).threads i).wait, ← each_wait i p n h) (go (p n))
  where
    go : (b : Bool) → ((kernel (add_if b (triggered n) (each p triggered n) ++ h)).threads i).wait ≡ (if b then free_on n ((kernel (each p triggered n ++ h)).threads i).wait else ((kernel (each p triggered n ++ h)).threads i).wait)
    go true = refl
    go false = refl

-- what a wait is due at
pub due_free_on : (e : ℕ) (w : Wait) → due_of (free_on e w) ≡ due_of w
due_free_on e free = refl
due_free_on e (on f) = go (eqb f e)
  where
    go : (b : Bool) → due_of (if b then free else on f) ≡ never
    go true = refl
    go false = refl
due_free_on e (till d) = refl

due_freed : (w : Wait) → due_of (free_timed w) ≡ never
due_freed free = refl
due_freed (on e) = refl
due_freed (till d) = refl

abbrev pub due_at : ℕ → Kernel → Due
due_at i k = due_of (k.threads i).wait

pub same_eq : (a d : Due) → same_due a d ≡ true → a ≡ d
same_eq never d q = absurd (false≢true q)
same_eq delta never q = absurd (false≢true q)
same_eq delta delta q = refl
same_eq delta (at u) q = absurd (false≢true q)
same_eq (at t) never q = absurd (false≢true q)
same_eq (at t) delta q = absurd (false≢true q)
same_eq (at t) (at u) q = ap at (eqb-true t u q)

module _ (t : Table) (k : Kernel) (d : Due) (h : History) where
  abbrev resumes : ℕ → Bool
  resumes i = same_due (resume_due (k.threads i).resuming) d

  abbrev frees : ℕ → Bool
  frees i = same_due (due_at i k) d

  abbrev triggers : ℕ → Bool
  triggers e = same_due (k.pends e) d

  abbrev triggering : History
  triggering = each triggers triggered (events t) ++ h

  abbrev freeing : History
  freeing = each frees freed (threads t) ++ triggering

  pub spread : served t k d ++ h ≡ each resumes resumed (threads t) ++ freeing
  unfolding served
  spread = simp append_assoc

  -- what serving does not change
  module _ {A : Type 0} (get : Kernel → A) (r : (n : ℕ) (c : Kernel) → get (after (resumed n) c) ≡ get c) (f : (n : ℕ) (c : Kernel) → get (after (freed n) c) ≡ get c) where
    skip_two : get (kernel (served t k d ++ h)) ≡ get (kernel triggering)
    skip_two = rw spread (each_skip get resumed r resumes (threads t) freeing ∙ each_skip get freed f frees (threads t) triggering)

    pub served_skip : ((n : ℕ) (c : Kernel) → get (after (triggered n) c) ≡ get c) → get (kernel (served t k d ++ h)) ≡ get (kernel h)
    served_skip g = skip_two ∙ each_skip get triggered g triggers (events t) h

  pub served_requested : (u : ℕ) → (kernel (served t k d ++ h)).requested u ≡ (kernel h).requested u
  unfolding after
  served_requested u = served_skip (λ c. c.requested u) (λ n c. refl) (λ n c. refl) (λ n c. refl)

  pub served_now : (kernel (served t k d ++ h)).now ≡ (kernel h).now
  unfolding after
  served_now = served_skip (λ c. c.now) (λ n c. refl) (λ n c. refl) (λ n c. refl)

  pub served_limit : (kernel (served t k d ++ h)).limit ≡ (kernel h).limit
  unfolding after
  served_limit = served_skip (λ c. c.limit) (λ n c. refl) (λ n c. refl) (λ n c. refl)

  pub served_stage : (kernel (served t k d ++ h)).stage ≡ (kernel h).stage
  unfolding after
  served_stage = served_skip (λ c. c.stage) (λ n c. refl) (λ n c. refl) (λ n c. refl)

  pub served_ended : (i : ℕ) → ((kernel (served t k d ++ h)).threads i).ended ≡ ((kernel h).threads i).ended
  unfolding after
  served_ended i = served_skip (λ c. (c.threads i).ended) (λ n c. field_same (λ s. s.ended) (eqb i n) _ (c.threads i) refl)
      (λ n c. field_same (λ s. s.ended) (eqb i n) _ (c.threads i) refl) (λ n c. refl)

  -- what was due is not any more
  pub served_pends : (e : ℕ) → (kernel (served t k d ++ h)).pends e ≡ (if ltb e (events t) && same_due (k.pends e) d then never else (kernel h).pends e)
  unfolding after
  served_pends e = skip_two (λ c. c.pends e) (λ n c. refl) (λ n c. refl) ∙ each_hit (λ c. c.pends e) triggered e (λ p. never) (λ n c. refl) triggers (events t) h

  -- a mark that only a resume takes away
  module _ (f : Thread → Bool) (off : (s : Thread) → f (standing false false s) ≡ false) (on : (w : Wait) (s : Thread) → f (waiting w s) ≡ f s) where
    served_mark : (i : ℕ) → f ((kernel (served t k d ++ h)).threads i) ≡ (if ltb i (threads t) && resumes i then false else f ((kernel h).threads i))
    unfolding after
    served_mark i = rw spread (each_hit (λ c. f (c.threads i)) resumed i (λ b. false) (λ n c. field_at f (eqb i n) _ (c.threads i) ∙ rw (off (c.threads i))) resumes (threads t) freeing
        ∙ rw (
          each_skip (λ c. f (c.threads i)) freed (λ n c. field_same f (eqb i n) _ (c.threads i) (on _ (c.threads i))) frees (threads t) triggering,
          each_skip (λ c. f (c.threads i)) triggered (λ n c. on _ (c.threads i)) triggers (events t) h,
        ))

  pub served_resuming : (i : ℕ) → ((kernel (served t k d ++ h)).threads i).resuming ≡ (if ltb i (threads t) && same_due (resume_due (k.threads i).resuming) d then false else ((kernel h).threads i).resuming)
  served_resuming = served_mark (λ s. s.resuming) (λ s. refl) (λ w s. refl)

  pub served_suspended : (i : ℕ) → ((kernel (served t k d ++ h)).threads i).suspended ≡ (if ltb i (threads t) && same_due (resume_due (k.threads i).resuming) d then false else ((kernel h).threads i).suspended)
  served_suspended = served_mark (λ s. s.suspended) (λ s. refl) (λ w s. refl)

  -- a wait of the threads, as the timed ones are freed
  freed_wait : (i : ℕ) → ((kernel (served t k d ++ h)).threads i).wait ≡ (if ltb i (threads t) && frees i then free_timed ((kernel triggering).threads i).wait else ((kernel triggering).threads i).wait)
  unfolding after
  freed_wait i = rw spread (each_skip (λ c. (c.threads i).wait) resumed (λ n c. field_same (λ s. s.wait) (eqb i n) _ (c.threads i) refl) resumes (threads t) freeing
      ∙ each_hit (λ c. (c.threads i).wait) freed i free_timed (λ n c. field_at (λ s. s.wait) (eqb i n) _ (c.threads i)) frees (threads t) triggering)

  pub served_wait_lem : (kernel h).threads ≡ k.threads → (i : ℕ) → i < threads t → ((kernel (served t k d ++ h)).threads i).wait ≡ served_wait t k d (k.threads i).wait
  served_wait_lem q i l = freed_wait i ∙ rw (each_wait i triggers (events t) h, q, lt-ltb i (threads t) l) (go (k.threads i).wait)
    where
      go : (w : Wait) → (if same_due (due_of w) d then free_timed (triggers_free triggers (events t) w) else triggers_free triggers (events t) w) ≡ served_wait t k d w
      go free = refl
      go (on e) = refl
      go (till x) = refl

  pub served_due : (i : ℕ) → due_at i (kernel (served t k d ++ h)) ≡ (if ltb i (threads t) && same_due (due_at i k) d then never else due_at i (kernel h))
  unfolding after
  served_due i = ap due_of (freed_wait i) ∙ go (ltb i (threads t) && frees i)
      ∙ rw (each_skip (due_at i) triggered (λ n c. due_free_on n (c.threads i).wait) triggers (events t) h)
    where
      go : (b : Bool) → due_of (if b then free_timed ((kernel triggering).threads i).wait else ((kernel triggering).threads i).wait) ≡ (if b then never else due_at i (kernel triggering))
      go true = due_freed ((kernel triggering).threads i).wait
      go false = refl

  module _ (a : (kernel h).pends ≡ k.pends) (b : (kernel h).threads ≡ k.threads) where
    -- each is still due when its turn comes
    pub event_due : (m : ℕ) → triggers m ≡ true → (kernel (each triggers triggered m ++ h)).pends m ≡ d
    unfolding after
    event_due m q =
        each_hit (λ c. c.pends m) triggered m (λ p. never) (λ n c. refl) triggers m h
        ∙ rw (le-ltb m m (omega arith), a) (same_eq (k.pends m) d q)

    pub wait_due : (m : ℕ) → frees m ≡ true → due_at m (kernel (each frees freed m ++ triggering)) ≡ d
    unfolding after
    wait_due m q =
        each_hit (due_at m) freed m (λ p. never) (λ n c. field_at (λ s. due_of s.wait) (eqb m n) _ (c.threads m) ∙ rw (due_freed (c.threads m).wait)) frees m triggering
        ∙ rw (le-ltb m m (omega arith), each_skip (due_at m) triggered (λ n c. due_free_on n (c.threads m).wait) triggers (events t) h, b) (same_eq (due_at m k) d q)

    pub resume_due_lem : (m : ℕ) → resumes m ≡ true → resume_due ((kernel (each resumes resumed m ++ freeing)).threads m).resuming ≡ d
    unfolding after
    resume_due_lem m q =
        ap resume_due (each_hit (λ c. (c.threads m).resuming) resumed m (λ p. false) (λ n c. field_at (λ s. s.resuming) (eqb m n) _ (c.threads m)) resumes m freeing)
        ∙ rw (
          le-ltb m m (omega arith),
          each_skip (λ c. (c.threads m).resuming) freed (λ n c. field_same (λ s. s.resuming) (eqb m n) _ (c.threads m) refl) frees (threads t) triggering,
          each_skip (λ c. (c.threads m).resuming) triggered (λ n c. refl) triggers (events t) h,
          b,
        ) (same_eq (resume_due (k.threads m).resuming) d q)
