-- The numbers show the kernel where one part of both changes: events, waits, modes, or requests. Assumes nothing.
use Prim.Native.Nat.{ℕ, ◌≤◌, ◌<◌}
use mathlib.Core.Path.{◌≡◌, refl, sym, ap, ◌∙◌}
use mathlib.Core.Bool.{Bool, true, false, not}
use mathlib.Core.List.{List}
use native.Mathlib.Omega.{arith}
use borrow.Author.Tests.{eqb-true, eqb-false}
use lib.Dec.{eqb}
use lib.ListN.{length, get_or, set}
use lib.Seq.{get_or-set_same, get_or-set_other}
use Rattle.std.specs.Prelude.{if◌then◌else◌}
use Rattle.sets.specs.Sets.{has}
use Rattle.kernel.specs.Search.{edit}
use Rattle.kernel.specs.Design.{Table, threads, events, updates}
use Rattle.kernel.specs.Kernel.{Due, delta, Wait, Thread, waiting, Kernel, with_pends, with_threads, with_requested}
use Rattle.kernel.specs.Pending.{is_free, due_of, same_due}
use Rattle.marks.specs.declared.Marks.{Marks}
use Rattle.marks.specs.Marks.{with_pending, with_requested as requested_as}
use Rattle.shows.specs.Shows.{Lists, lists, Kept, kept, is_on, Timed, Shows}

-- place i, or another
pub here_or_other : (P : Bool → Type 0) (j i : ℕ) → (j ≡ i → P true) → ((j ≡ i → ⊥) → P false) → P (eqb j i)
here_or_other P j i f g = go (eqb j i) refl
  where
    go : (z : Bool) → eqb j i ≡ z → P z
    go true e = f (eqb-true j i e)
    go false e = g (eqb-false j i e)

pub if_in : {A B : Type 0} (g : A → B) (z : Bool) (a b : A) → g (if z then a else b) ≡ (if z then g a else g b)
if_in g true a b = refl
if_in g false a b = refl

-- one number changed, and what it is for
pub timed_set : (cs : List ℕ) (n i v : ℕ) (f : Due → Due) (g : ℕ → Due) → length cs ≡ n → ((j : ℕ) → j < n → Timed (get_or cs j 0) (g j)) → (i < n → Timed v (f (g i))) → (j : ℕ) → j < n → Timed (get_or (set cs i v) j 0) (edit i f g j)
timed_set cs n i v f g a s h j b =
    here_or_other (λ z. Timed (get_or (set cs i v) j 0) (if z then f (g j) else g j)) j i
    (λ r. rw (r, get_or-set_same cs i v 0 (omega arith)) (h (omega arith)))
    (λ r. rw (get_or-set_other cs i j v 0 r) (s j b))

-- marks and lists that show the waits f
pub record Waits (t : Table) (f : ℕ → Wait) (w d : ℕ) (ws wt : List ℕ) : Type 0 where
  pub waiting : (i : ℕ) → i < threads t → has w i ≡ not (is_free (f i))
  pub deltas : (i : ℕ) → i < threads t → has d i ≡ same_due (due_of (f i)) delta
  pub waits : (i : ℕ) → i < threads t → Timed (get_or ws i 0) (due_of (f i))
  pub waiters : (e i : ℕ) → e < events t → i < threads t → has (get_or wt e 0) i ≡ is_on e (f i)
  pub all_waits : length ws ≡ threads t
  pub all_waiters : length wt ≡ events t

-- marks that show which of the threads f are suspended, to be resumed, ended
pub record Modes (t : Table) (f : ℕ → Thread) (s r e : ℕ) : Type 0 where
  pub suspended : (i : ℕ) → i < threads t → has s i ≡ (f i).suspended
  pub resuming : (i : ℕ) → i < threads t → has r i ≡ (f i).resuming
  pub ended : (i : ℕ) → i < threads t → has e i ≡ (f i).ended
  pub no_thread : (i : ℕ) → threads t ≤ i → i < 32 → has e i ≡ true

abbrev pub with_waits : (w d : ℕ) → Marks → Marks
with_waits w d m = record { waiting = w; delta = d; suspended = m.suspended; resuming = m.resuming; ended = m.ended; requested = m.requested; pending = m.pending }

abbrev pub with_modes : (s r e : ℕ) → Marks → Marks
with_modes s r e m = record { waiting = m.waiting; delta = m.delta; suspended = s; resuming = r; ended = e; requested = m.requested; pending = m.pending }

module _ (t : Table) (k : Kernel) (x : Kept) (s : Shows t k x) where
  abbrev m : Marks
  m = x.marks

  abbrev l : Lists
  l = x.lists

  pub events_change : (f : ℕ → Due) (p : ℕ) (ps : List ℕ) → ((e : ℕ) → e < events t → has p e ≡ same_due (f e) delta) → ((e : ℕ) → e < events t → Timed (get_or ps e 0) (f e)) → length ps ≡ events t
      → Shows t (with_pends f k) (kept (with_pending p m) (lists ps l.waits l.waiters))
  events_change f p ps a b c = record {
    pending = a;
    pends = b;
    waiting = s.waiting;
    deltas = s.deltas;
    waits = s.waits;
    waiters = s.waiters;
    suspended = s.suspended;
    resuming = s.resuming;
    ended = s.ended;
    requested = s.requested;
    no_thread = s.no_thread;
    no_update = s.no_update;
    all_pends = c;
    all_waits = s.all_waits;
    all_waiters = s.all_waiters;
    few = s.few;
  }

  pub waits_change : (f : ℕ → Thread) (w d : ℕ) (ws wt : List ℕ) → ((i : ℕ) → f i ≡ waiting (f i).wait (k.threads i)) → Waits t (λ i. (f i).wait) w d ws wt → Shows t (with_threads f k) (kept (with_waits w d m) (lists l.pends ws wt))
  waits_change f w d ws wt e c = record {
    pending = s.pending;
    pends = s.pends;
    waiting = c.waiting;
    deltas = c.deltas;
    waits = c.waits;
    waiters = c.waiters;
    suspended = λ i h. s.suspended i h ∙ sym (ap (λ (y : Thread). y.suspended) (e i));
    resuming = λ i h. s.resuming i h ∙ sym (ap (λ (y : Thread). y.resuming) (e i));
    ended = λ i h. s.ended i h ∙ sym (ap (λ (y : Thread). y.ended) (e i));
    requested = s.requested;
    no_thread = s.no_thread;
    no_update = s.no_update;
    all_pends = s.all_pends;
    all_waits = c.all_waits;
    all_waiters = c.all_waiters;
    few = s.few;
  }

  pub modes_change : (f : ℕ → Thread) (su re en : ℕ) → ((i : ℕ) → (f i).wait ≡ (k.threads i).wait) → Modes t f su re en → Shows t (with_threads f k) (kept (with_modes su re en m) l)
  modes_change f su re en e c = record {
    pending = s.pending;
    pends = s.pends;
    waiting = λ i h. rw (e i) (s.waiting i h);
    deltas = λ i h. rw (e i) (s.deltas i h);
    waits = λ i h. rw (e i) (s.waits i h);
    waiters = λ f i g h. rw (e i) (s.waiters f i g h);
    suspended = c.suspended;
    resuming = c.resuming;
    ended = c.ended;
    requested = s.requested;
    no_thread = c.no_thread;
    no_update = s.no_update;
    all_pends = s.all_pends;
    all_waits = s.all_waits;
    all_waiters = s.all_waiters;
    few = s.few;
  }

  pub requests_change : (f : ℕ → Bool) (r : ℕ) → ((u : ℕ) → u < updates t → has r u ≡ f u) → ((u : ℕ) → updates t ≤ u → u < 32 → has r u ≡ false) → Shows t (with_requested f k) (kept (requested_as r m) l)
  requests_change f r a b = record {
    pending = s.pending;
    pends = s.pends;
    waiting = s.waiting;
    deltas = s.deltas;
    waits = s.waits;
    waiters = s.waiters;
    suspended = s.suspended;
    resuming = s.resuming;
    ended = s.ended;
    requested = a;
    no_thread = s.no_thread;
    no_update = b;
    all_pends = s.all_pends;
    all_waits = s.all_waits;
    all_waiters = s.all_waiters;
    few = s.few;
  }

  -- a kernel that differs in its single numbers alone
  pub shows_again : (c : Kernel) → c.pends ≡ k.pends → c.threads ≡ k.threads → c.requested ≡ k.requested → Shows t c x
  shows_again c p q r = record {
    pending = λ e h. rw p (s.pending e h);
    pends = λ e h. rw p (s.pends e h);
    waiting = λ i h. rw q (s.waiting i h);
    deltas = λ i h. rw q (s.deltas i h);
    waits = λ i h. rw q (s.waits i h);
    waiters = λ e i g h. rw q (s.waiters e i g h);
    suspended = λ i h. rw q (s.suspended i h);
    resuming = λ i h. rw q (s.resuming i h);
    ended = λ i h. rw q (s.ended i h);
    requested = λ u h. rw r (s.requested u h);
    no_thread = s.no_thread;
    no_update = s.no_update;
    all_pends = s.all_pends;
    all_waits = s.all_waits;
    all_waiters = s.all_waiters;
    few = s.few;
  }
