-- What an instruction may come to: it stops the run with a number of its own, takes an input only if one is left, asks for what lies ahead of
-- now and not past the last time, and starts only before the phase. So what stands due lies ahead.
use Prim.Native.Nat.{ℕ, zero, suc, ◌+◌, ◌≤◌, ◌<◌}
use mathlib.Core.Path.{◌≡◌, refl, sym, subst}
use mathlib.Core.Bool.{Bool, true, false}
use mathlib.Core.Logic.{◌⊎◌, inl, inr}
use mathlib.Core.List.{◌∷◌}
use native.Mathlib.Omega.{arith}
use lib.Dec.{eqb, leb}
use lib.ListN.{get_or}
use Rattle.word.specs.Word.{Result, value, stop}
use Rattle.frame.specs.declared.Frame.{Frame}
use Rattle.frame.specs.Ops.{Meaning, takes_imm, takes_input, one, two, may, load, store, goto, goto_if, holds, wait_event, wait_time, notify, notify_after, request, suspend, resume as resume_op, start_limit, start, unknown, meaning_of}
use Rattle.kernel.specs.Search.{Found, none, found}
use Rattle.image.specs.Judge.{judged}
use Rattle.kernel.specs.Design.{Table, Body, main, threads, updates, length_of, instruction}
use Rattle.kernel.specs.Kernel.{Due, never, delta, at, earlier, after_delay, Wait, till, Deed, nothing, reads, notifies, asks, waits, requests, suspends, resumes, Happening, ran, triggered, freed, resumed, ended, dispatched, finished, began, moved, quiet, limited, History, Stage, before, during, past, after, kernel}
use Rattle.kernel.specs.Pending.{due_of, resume_due}
use Rattle.kernel.specs.Effect.{View, Effect, stops, sets, takes, goes, does, begins, stop_if, sets_to, takes_to, goes_if, starts_in, main_past, is_never, asks_for, effect, last_time}
use Rattle.kernel.specs.Words.{alike, clock, Work, event, wait, resume, Within}
use Rattle.kernel.specs.Demand.{is_stop, Stops}
use Rattle.kernel.proofs.Asking.{asks_or_stops}
use Rattle.kernel.proofs.Stops.{RightResult, Sound, found_sound}
use Rattle.kernel.proofs.Words.{PendStep, pend_drops, pend_adds, pend_stays, pend_step, earlier_pick, WaitStep, wait_begins, wait_ends, wait_stays, wait_step}
use Rattle.kernel.proofs.Due.{due_in}

-- not past the last time
abbrev InRange : Due → Type 0
InRange never = Unit {0}
InRange delta = Unit {0}
InRange (at u) = u ≤ last_time

abbrev pub Ahead : ℕ → Due → Type 0
Ahead n never = Unit {0}
Ahead n delta = Unit {0}
Ahead n (at u) = (n < u) × (u ≤ last_time)

abbrev pub AheadDeed : ℕ → Deed → Type 0
AheadDeed n nothing = Unit {0}
AheadDeed n reads = Unit {0}
AheadDeed n (notifies e) = Unit {0}
AheadDeed n (asks e d) = Ahead n d
AheadDeed n (waits w) = Ahead n (due_of w)
AheadDeed n (requests u) = Unit {0}
AheadDeed n (suspends i) = Unit {0}
AheadDeed n (resumes i) = Unit {0}

-- what an instruction of t may come to at time n and in stage s, f being the next input --------------------------------------------------

abbrev pub Allowed : Table → Found → ℕ → Stage → Effect → Type 0
Allowed t f n s (stops m) = Stops t m
Allowed t f n s (sets d x) = Unit {0}
Allowed t f n s (takes d x) = f ≡ found x
Allowed t f n s (goes p) = Unit {0}
-- an input is taken, and not asked for of the kernel
Allowed t f n s (does x) = (AheadDeed n x) × ((b : Body) → alike (ran main reads) (ran b x) ≡ false)
Allowed t f n s (begins l) = s ≡ before

ahead_delay : (n v : ℕ) → InRange (after_delay n v) → Ahead n (after_delay n v)
ahead_delay n zero r = tt
ahead_delay n (suc v) r = (omega arith, r)

module _ (t : Table) (f : Found) (n : ℕ) where
  module _ (s : Stage) where
    by_stop : (b : Bool) (m : ℕ) (x : Effect) → is_stop m ≡ true → Allowed t f n s x → Allowed t f n s (stop_if b m x)
    by_stop true m x q h = inl q
    by_stop false m x q h = h

    by_asks : (a : Bool) (m : ℕ) (d : Due) (x : Deed) → (InRange d → Allowed t f n s (does x)) → Allowed t f n s (asks_for a m d x)
    by_asks a m never x h = h tt
    by_asks a m delta x h = h tt
    by_asks a m (at u) x h = by (asks_or_stops a m u x)
      where
        by : ((u ≤ last_time) × (asks_for a m (at u) x ≡ does x)) ⊎ ((v : ℕ) × (is_stop v ≡ true) × (asks_for a m (at u) x ≡ stops v)) → Allowed t f n s (asks_for a m (at u) x)
        by (inl e) = subst (Allowed t f n s) (sym e.1) (h e.0)
        by (inr w) = subst (Allowed t f n s) (sym w.2) (inl w.1)

    by_sets : (d : ℕ) (r : Result) → RightResult r → Allowed t f n s (sets_to d r)
    by_sets d (value x) q = tt
    by_sets d (stop m) q = inl q

    by_takes : (d : ℕ) (g : Found) → f ≡ g → Allowed t f n s (takes_to d g)
    by_takes d none q = inl refl
    by_takes d (found x) q = q

    by_goes : (v p q : ℕ) → Allowed t f n s (goes_if v p q)
    by_goes zero p q = tt
    by_goes (suc v) p q = tt

  by_starts : (s : Stage) (l : Found) → Allowed t f n s (starts_in s l)
  by_starts before l = refl
  by_starts during l = inl refl
  by_starts (past m) l = inl refl

module _ (t : Table) (v : View) where
  abbrev N : ℕ
  N = v.kernel.now

  abbrev S : Stage
  S = v.kernel.stage

  abbrev F : Found
  F = v.input

  abbrev late : Bool
  late = main_past v.body S

  module _ (i : Frame) where
    abbrev A : ℕ
    A = get_or v.cells i.a 0

    abbrev B : ℕ
    B = get_or v.cells i.b 0

    abbrev due : Due
    due = after_delay N A

    by_meaning : (m : Meaning) → Sound m → Allowed t F N S (effect v i m)
    unfolding effect
    by_meaning takes_imm h = tt
    by_meaning takes_input h = by_takes t F N S i.d F refl
    by_meaning (one f) h = tt
    by_meaning (two f) h = tt
    by_meaning (may f) h = by_sets t F N S i.d (f A B) (h A B)
    by_meaning load h = by_stop t F N S (leb i.b A) 16 _ refl tt
    by_meaning store h = by_stop t F N S (leb i.b A) 16 _ refl tt
    by_meaning goto h = tt
    by_meaning goto_if h = by_goes t F N S A i.imm (suc v.place)
    by_meaning (holds n) h = by_stop t F N S (eqb A 0) n (does nothing) h (tt, λ b. refl)
    by_meaning wait_event h = (tt, λ b. refl)
    by_meaning wait_time h = by_asks t F N S true v.times due (waits (till due)) (λ r. (ahead_delay N A r, λ b. refl))
    by_meaning notify h = by_stop t F N S late 18 (does (notifies i.d)) refl (tt, λ b. refl)
    by_meaning notify_after h =
        by_stop t F N S late 18 _ refl (by_asks t F N S (is_never (v.kernel.pends i.d)) v.times due (asks i.d due) (λ r. (ahead_delay N A r, λ b. refl)))
    by_meaning request h = by_stop t F N S late 18 (does (requests i.d)) refl (tt, λ b. refl)
    by_meaning suspend h = by_stop t F N S late 18 (does (suspends i.d)) refl (tt, λ b. refl)
    by_meaning resume_op h = by_stop t F N S late 18 (does (resumes i.d)) refl (tt, λ b. refl)
    by_meaning start_limit h = by_starts t F N S (found i.imm)
    by_meaning start h = by_starts t F N S none
    by_meaning unknown h = absurd h

  pub allowed : (k p : ℕ) → k < threads t + updates t + 1 → p < length_of t k → Allowed t F N S (effect v (instruction t k p) (meaning_of (instruction t k p).op))
  unfolding effect
  allowed k p l m = by (found_sound t k p l m)
    where
      i : Frame
      i = instruction t k p

      by : Sound (meaning_of i.op) ⊎ ((meaning_of i.op ≡ unknown) × ((judged t).number ≡ 0 → ⊥)) → Allowed t F N S (effect v i (meaning_of i.op))
      by (inl h) = by_meaning i (meaning_of i.op) h
      by (inr e) = rw e.0 (inr (refl, e.1))

-- what stands due lies ahead -----------------------------------------------------------------------------------------

abbrev pub Later : Table → History → Type 0
Later t h = (x : Work) → Within t x → Ahead (clock h).time (due_in (kernel h) x)

ahead_resume : (n : ℕ) (b : Bool) → Ahead n (resume_due b)
ahead_resume n true = tt
ahead_resume n false = tt

-- what x asks for lies ahead of n
abbrev pub Foresees : ℕ → Happening → Type 0
Foresees n (ran b x) = AheadDeed n x
Foresees n (triggered e) = Unit {0}
Foresees n (freed i) = Unit {0}
Foresees n (resumed i) = Unit {0}
Foresees n (ended i) = Unit {0}
Foresees n (dispatched i) = Unit {0}
Foresees n (finished u) = Unit {0}
Foresees n (began l) = Unit {0}
Foresees n (moved t) = Unit {0}
Foresees n quiet = Unit {0}
Foresees n limited = Unit {0}

pub later_on : (t : Table) (x : Happening) (h : History) → (clock (x ∷ h)).time ≡ (clock h).time → Foresees (clock h).time x → Later t h → Later t (x ∷ h)
unfolding kernel
later_on t x h c f l (event e) w = rw c (go ((after x (kernel h)).pends e) (pend_step x e (kernel h)))
  where
    go : (p : Due) → PendStep e x ((kernel h).pends e) p → Ahead (clock h).time p
    go p (pend_drops q) = tt
    go p (pend_adds b d q) = by (earlier_pick d ((kernel h).pends e))
      where
        by : (earlier d ((kernel h).pends e) ≡ d) ⊎ (earlier d ((kernel h).pends e) ≡ (kernel h).pends e) → Ahead (clock h).time (earlier d ((kernel h).pends e))
        by (inl z) = rw z (subst (Foresees (clock h).time) q f)
        by (inr z) = rw z (l (event e) w)
    go p (pend_stays q) = l (event e) w
later_on t x h c f l (wait i) w = rw c (go ((after x (kernel h)).threads i).wait (wait_step x i (kernel h)))
  where
    go : (v : Wait) → WaitStep i x ((kernel h).threads i).wait v → Ahead (clock h).time (due_of v)
    go v (wait_begins u q) = subst (Foresees (clock h).time) q f
    go v (wait_ends q) = tt
    go v (wait_stays q) = l (wait i) w
later_on t x h c f l (resume i) w = ahead_resume (clock (x ∷ h)).time ((after x (kernel h)).threads i).resuming
