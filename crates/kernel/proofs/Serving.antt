-- Serving what is due: each trigger, freeing and resume comes when it might.
use Prim.Native.Nat.{ℕ, zero, suc}
use mathlib.Core.Path.{◌≡◌, refl, ap, ◌∙◌, sym}
use mathlib.Core.Bool.{Bool, true, false}
use mathlib.Core.List.{◌∷◌, ◌++◌}
use Rattle.kernel.specs.Search.{add_if, each}
use Rattle.kernel.specs.Design.{Table, threads, events}
use Rattle.kernel.specs.Kernel.{Due, never, Kernel, Happening, triggered, freed, resumed, History, during, kernel}
use Rattle.kernel.specs.Pending.{served}
use Rattle.kernel.specs.Words.{since, requested, Clock, clock, InStage, between, Requested, Lull, yet, Work, event, wait, resume, serves}
use Rattle.kernel.specs.Demand.{Now, in_delta, at_time, Ripe, Might, Rightly}
use Rattle.kernel.proofs.Served.{spread, event_due, wait_due, resume_due_lem}
use Rattle.kernel.proofs.Due.{due_in, delta_never, at_never, in_due}

-- the update phase is done, and d has come
pub record Serving (t : Table) (d : Due) (h : History) : Type 0 where
  pub rightly : Rightly t h
  pub in_phase : (clock h).stage ≡ during
  pub lull : Lull t h
  pub no_update : (u : ℕ) → Requested t h u → ⊥
  pub now : Now h d

now_never : (h : History) (d : Due) → Now h d → d ≡ never → ⊥
now_never h d in_delta q = delta_never q
now_never h d at_time q = at_never (clock h).time q

same_now : (x : Happening) (h : History) (d : Due) → clock (x ∷ h) ≡ clock h → Now h d → Now (x ∷ h) d
same_now x h d c in_delta = in_delta
same_now x h d c at_time = rw (← c) at_time

module _ (t : Table) (d : Due) where
  -- a happening that leaves the clock and the requests as they are
  serve_by : (x : Happening) (h : History) → clock (x ∷ h) ≡ clock h → ((u : ℕ) → requested (x ∷ h) u ≡ requested h u) → between x ≡ true → ((clock h).stage ≡ during → InStage (clock h).stage x) → Might t h x → Serving t d h → Serving t d (x ∷ h)
  serve_by x h c r b i m s = record {
    rightly = (i s.in_phase, m, s.rightly);
    in_phase = ap (λ (c : Clock). c.stage) c ∙ s.in_phase;
    lull = yet b s.lull;
    no_update = λ u q. s.no_update u (record { there = q.there; asked = sym (r u) ∙ q.asked });
    now = same_now x h d c s.now;
  }

  serve_one : (x : Work) (h : History) → due_in (kernel h) x ≡ d → Serving t d h → Serving t d (serves x ∷ h)
  unfolding clock since
  serve_one x h q s = go x (record { lull = s.lull; no_update = s.no_update; due = d; now = s.now; stands = in_due h x d (now_never h d s.now) q })
    where
      go : (x : Work) → Ripe t h x → Serving t d (serves x ∷ h)
      go (event e) r = serve_by (triggered e) h refl (λ u. refl) refl (λ z. z) r s
      go (wait i) r = serve_by (freed i) h refl (λ u. refl) refl (λ z. z) r s
      go (resume i) r = serve_by (resumed i) h refl (λ u. refl) refl (λ z. z) r s

  serve_each : (x : ℕ → Work) (p : ℕ → Bool) (h : History) → ((m : ℕ) → p m ≡ true → due_in (kernel (each p (λ i. serves (x i)) m ++ h)) (x m) ≡ d) → Serving t d h → (n : ℕ) → Serving t d (each p (λ i. serves (x i)) n ++ h)
  unfolding each
  serve_each x p h f s zero = s
  serve_each x p h f s (suc n) = go (p n) refl (serve_each x p h f s n)
    where
      go : (b : Bool) → p n ≡ b → Serving t d (each p (λ i. serves (x i)) n ++ h) → Serving t d (add_if b (serves (x n)) (each p (λ i. serves (x i)) n) ++ h)
      go true q r = serve_one (x n) (each p (λ i. serves (x i)) n ++ h) (f n q) r
      go false q r = r

pub serve_all : (t : Table) (k : Kernel) (d : Due) (h : History) → (kernel h).pends ≡ k.pends → (kernel h).threads ≡ k.threads → Serving t d h → Serving t d (served t k d ++ h)
serve_all t k d h a b s =
    let x = serve_each t d event _ h (event_due t k d h a b) s (events t) in
    let y = serve_each t d wait _ _ (wait_due t k d h a b) x (threads t) in
    rw (spread t k d h) (serve_each t d resume _ _ (resume_due_lem t k d h a b) y (threads t))
