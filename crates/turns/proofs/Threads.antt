-- A turn leaves as many threads as there were. Assumes nothing.
use Prim.Native.Nat.{ℕ, ◌+◌, ◌-◌}
use mathlib.Core.Path.{◌≡◌, refl, ap, ◌∙◌}
use mathlib.Core.Bool.{Bool, true, false}
use mathlib.Core.List.{List}
use lib.Dec.{eqb, ltb}
use lib.ListN.{length, get_or, set, length-set}
use Rattle.std.proofs.lemmas.List.{length-map}
use Rattle.std.specs.Prelude.{if◌then◌else◌, Option}
use Rattle.frame.specs.declared.Frame.{Frame}
use Rattle.frame.specs.Ops.{Meaning, takes_imm, takes_input, one, two, may, load, store, goto, goto_if, holds, wait_event, wait_time, notify, notify_after, request, suspend, resume, start_limit, start, unknown}
use Rattle.kernel.specs.Search.{Found, none, found, nth}
use Rattle.dues.specs.Codes.{last_time}
use Rattle.dues.specs.Dues.{waits_at, over_code, ask_code}
use Rattle.plain.specs.declared.End.{End}
use Rattle.plain.specs.declared.End.TheVariants.{Ended, Left, Stopped}
use Rattle.shows.specs.Shows.{Lists, Kept}
use Rattle.turns.specs.declared.Control.{Control}
use Rattle.turns.specs.declared.Control.TheVariants.{Runs, UpdatePhase, DeltaPhase, Turn, Evaluation, TimePhase, Over}
use Rattle.turns.specs.declared.Now.{Now}
use Rattle.turns.specs.declared.Obeyed.TheVariants.{Goes}
use Rattle.turns.specs.declared.Stage.{Stage}
use Rattle.turns.specs.declared.Stage.TheVariants.{Before, During, Quiet, Limited}
use Rattle.turns.specs.Code.{Code, Did, is_thread, is_past, is_beyond, did, wait_came, asked_in, adds_time, waited_on, waited_till, took_by, due_by, full, in_time, starts_by, obeyed, ran_to, body_run, served_by, served_at, least_of, settled, settled_in, turn_from, turn}

-- of so many
abbrev Many : ℕ → Lists → Type 0
Many k l = length l.waits ≡ k

if_many : (k : ℕ) (z : Bool) (a b : Lists) → Many k a → Many k b → Many k (if z then a else b)
if_many k true a b x y = x
if_many k false a b x y = y

-- of what was done
abbrev Did_many : ℕ → Did → Type 0
Did_many k d = Many k d.kept.lists

if_did : (k : ℕ) (z : Bool) (a b : Did) → Did_many k a → Did_many k b → Did_many k (if z then a else b)
if_did k true a b x y = x
if_did k false a b x y = y

if_kept : (k : ℕ) (z : Bool) (a b : Kept) → Many k a.lists → Many k b.lists → Many k (if z then a else b).lists
if_kept k true a b x y = x
if_kept k false a b x y = y

module _ (k : ℕ) (x : Kept) (h : Many k x.lists) (cs : List ℕ) where
  due_many : (adds : Bool) (q : ℕ) (d : Did) → Did_many k d → Did_many k (due_by adds q x cs d)
  due_many adds q d e = if_did k (ltb last_time q) _ _ h (if_did k (full adds q x.lists) _ d h e)

  past_many : (b : ℕ) (v : Stage) (d : Did) → Did_many k d → Did_many k (in_time b v x cs d)
  past_many b v d e = if_did k (is_past b v) _ d h e

  took_many : (f : Found) (d : ℕ) → Did_many k (took_by f d x cs)
  took_many none d = h
  took_many (found v) d = h

  starts_many : (v : Stage) (o : Option ℕ) → Did_many k (starts_by v o x cs)
  starts_many Before o = h
  starts_many During o = h
  starts_many Quiet o = h
  starts_many Limited o = h

  on_many : (t b e : ℕ) → Many k (waited_on t b e x).lists
  unfolding waited_on
  on_many t b e = if_kept k (is_thread t b) _ x h h

  at_many : (q i : ℕ) → length (waits_at q i x.lists.waits) ≡ k
  unfolding waits_at
  at_many q i = by (eqb q 0)
    where
      by : (z : Bool) → length (if z then x.lists.waits else set x.lists.waits i q) ≡ k
      by true = h
      by false = length-set x.lists.waits i q ∙ h

  till_many : (t b q : ℕ) → Many k (waited_till t b q x).lists
  unfolding waited_till
  till_many t b q = if_kept k (is_thread t b) _ x (at_many q (b - 1)) h

  obeyed_many : (t b : ℕ) (i : Frame) (n : Now) (inputs : List ℕ) (m : Meaning) → Did_many k (obeyed t b i n inputs x cs m)
  unfolding obeyed
  obeyed_many t b i n inputs takes_input = took_many (nth inputs n.taken) i.d
  obeyed_many t b i n inputs wait_event = on_many t b i.d
  obeyed_many t b i n inputs wait_time =
      let q = ask_code n.time (get_or cs i.a 0) in
      due_many true q (did (wait_came t b) (waited_till t b q x) cs) (till_many t b q)
  obeyed_many t b i n inputs notify = past_many b n.stage _ h
  obeyed_many t b i n inputs notify_after =
      let q = ask_code n.time (get_or cs i.a 0) in
      let d = did Goes (asked_in q i.d x) cs in
      past_many b n.stage (due_by (adds_time i.d x) q x cs d) (due_many (adds_time i.d x) q d h)
  obeyed_many t b i n inputs request = past_many b n.stage _ h
  obeyed_many t b i n inputs suspend = past_many b n.stage _ h
  obeyed_many t b i n inputs resume = past_many b n.stage _ h
  obeyed_many t b i n inputs start_limit = starts_many n.stage _
  obeyed_many t b i n inputs start = starts_many n.stage _
  obeyed_many t b i n inputs takes_imm = h
  obeyed_many t b i n inputs (one f) = h
  obeyed_many t b i n inputs (two f) = h
  obeyed_many t b i n inputs (may f) = h
  obeyed_many t b i n inputs load = h
  obeyed_many t b i n inputs store = h
  obeyed_many t b i n inputs goto = h
  obeyed_many t b i n inputs goto_if = h
  obeyed_many t b i n inputs (holds c) = h
  obeyed_many t b i n inputs unknown = h

module _ (table choices inputs firsts : List ℕ) (t : ℕ) where
  ran_many : (base b : ℕ) (e : End) (p : ℕ) (n : Now) (l : Lists) (ps cs : List ℕ) → Many (length l.waits) (ran_to table inputs t base b e p n l ps cs).lists
  ran_many base b Ended p n l ps cs = refl
  ran_many base b (Stopped k) p n l ps cs = refl
  ran_many base b Left p n l ps cs = obeyed_many (length l.waits) _ refl cs t b _ n inputs _

  body_many : (b : ℕ) (c : Code) → Many (length c.lists.waits) (body_run table inputs firsts t b c).lists
  unfolding body_run
  body_many b c = ran_many _ b _ _ _ c.lists _ _

  served_many : (f : Found) (n : Now) (l : Lists) → Many (length l.waits) (served_by f n l)
  served_many none n l = refl
  served_many (found d) n l = if_many (length l.waits) (is_beyond n.limit d) l (served_at d l) refl (length-map l.waits (over_code (d + 1)))

  from_many : (c : Code) (a : Control) → Many (length c.lists.waits) (turn_from table inputs firsts t c a).lists
  from_many c (Runs b) = body_many b c
  from_many c UpdatePhase = refl
  from_many c DeltaPhase = refl
  from_many c TimePhase = served_many (least_of c.lists) c.now c.lists
  from_many c Turn = refl
  from_many c Evaluation = refl
  from_many c (Over k b p) = refl

  pub turn_many : (c d : Code) → d ≡ turn table choices inputs firsts t c → length d.lists.waits ≡ length c.lists.waits
  unfolding turn
  turn_many c d e =
      ap (λ (x : Code). length x.lists.waits) e ∙ from_many (settled_in choices c) (settled choices c.now).control
