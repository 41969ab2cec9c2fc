-- The table's two columns agree: a cell that an op's meaning reads or writes, and an event or update that it names, stands in a field that the op uses so.
use Rattle.std.specs.Prelude.{ℕ, ◌+◌, ◌≤◌, ◌<◌, ◌≡◌, refl, Bool, true, false, ◌&&◌, List, [], ◌∷◌, Some, eqb, if◌then◌else◌}
use Rattle.std.proofs.lemmas.Bool.{false≢true}
use borrow.Author.Tests.{ltb-true, leb-true}
use Rattle.laws.specs.Choice.{and_left, and_right}
use Rattle.frame.specs.declared.Frame.{Frame}
use Rattle.frame.specs.declared.Counts.{Counts}
use Rattle.frame.specs.declared.Kind.{Kind}
use Rattle.frame.specs.declared.Use.{Use}
use Rattle.frame.specs.declared.Use.TheVariants.{Unused, Cell, Event, Thread, Update, Number, Length, Region, Target}
use Rattle.frame.specs.declared.Uses.{Uses}
use Rattle.frame.specs.Ops.{Meaning, takes_imm, takes_input, one, two, may, load, store, goto, goto_if, holds, wait_event, wait_time, notify, notify_after, request, suspend, resume, start_limit, start, unknown, Row, ops, look, look_meaning, uses_of, meaning_of}
use Rattle.frame.specs.Fault.{fits}
use Rattle.frame.specs.Laws.{Sound}

abbrev is_cell : Use → Bool
is_cell Cell = true
is_cell Unused = false
is_cell Event = false
is_cell Thread = false
is_cell Update = false
is_cell Number = false
is_cell Length = false
is_cell Region = false
is_cell Target = false

abbrev is_event : Use → Bool
is_event Event = true
is_event Cell = false
is_event Unused = false
is_event Thread = false
is_event Update = false
is_event Number = false
is_event Length = false
is_event Region = false
is_event Target = false

abbrev is_update : Use → Bool
is_update Update = true
is_update Cell = false
is_update Unused = false
is_update Event = false
is_update Thread = false
is_update Number = false
is_update Length = false
is_update Region = false
is_update Target = false

abbrev is_region : Use → Bool
is_region Region = true
is_region Cell = false
is_region Unused = false
is_region Event = false
is_region Thread = false
is_region Update = false
is_region Number = false
is_region Length = false
is_region Target = false

-- does the op use the field of a cell that its meaning speaks of
pub record Cells : Type 0 where
  pub d : Bool
  pub a : Bool
  pub b : Bool
  pub region : Bool
  pub event : Bool
  pub update : Bool

abbrev cells : (d a b region event update : Bool) → Cells
cells d a b region event update = record { d = d; a = a; b = b; region = region; event = event; update = update }

-- the fields that a meaning takes for cells, and whether it takes imm for a region and d for an event or an update
abbrev pub named : Meaning → Cells
named takes_imm = cells true false false false false false
named takes_input = cells true false false false false false
named (one f) = cells true true false false false false
named (two f) = cells true true true false false false
named (may f) = cells true true true false false false
named load = cells true true false true false false
named store = cells true true false true false false
named goto = cells false false false false false false
named goto_if = cells false true false false false false
named (holds n) = cells false true false false false false
named wait_event = cells false false false false true false
named wait_time = cells false true false false false false
named notify = cells false false false false true false
named notify_after = cells false true false false true false
named request = cells false false false false false true
named suspend = cells false false false false false false
named resume = cells false false false false false false
named start_limit = cells false false false false false false
named start = cells false false false false false false
named unknown = cells false false false false false false

abbrev implies : Bool → Bool → Bool
implies true y = y
implies false y = true

abbrev agree : Cells → Uses → Bool
agree c u =
    implies c.d (is_cell u.d) && implies c.a (is_cell u.a) && implies c.b (is_cell u.b)
    && implies c.region (is_region u.imm) && implies c.event (is_event u.d) && implies c.update (is_update u.d)

abbrev all_agree : List Row → Bool
all_agree [] = true
all_agree (r ∷ rs) = agree (named r.meaning) r.uses && all_agree rs

-- the one test over the table
every : all_agree ops ≡ true
every = refl

agreed_in : (rs : List Row) (n : ℕ) (u : Uses) → all_agree rs ≡ true → look rs n ≡ Some u → agree (named (look_meaning rs n)) u ≡ true
agreed_in [] n u t e = cc
agreed_in (r ∷ rs) n u t e =
    go (eqb n r.number) e (agreed_in rs n u (and_right (agree (named r.meaning) r.uses) (all_agree rs) t))
  where
    go : (b : Bool) → (if b then Some r.uses else look rs n) ≡ Some u → (look rs n ≡ Some u → agree (named (look_meaning rs n)) u ≡ true) → agree (named (if b then r.meaning else look_meaning rs n)) u ≡ true
    go true q f =
        let w : r.uses ≡ u = cc in
        rw (← w) (and_left (agree (named r.meaning) r.uses) (all_agree rs) t)
    go false q f = f q

agreed : (n : ℕ) (u : Uses) → uses_of n ≡ Some u → agree (named (meaning_of n)) u ≡ true
unfolding uses_of meaning_of
agreed n u e = agreed_in ops n u every e

-- what an instruction without a fault may do with its cells
pub record InCells (c : Counts) (f : Frame) (m : Meaning) : Type 0 where
  pub d_in : (named m).d ≡ true → f.d < c.cells
  pub a_in : (named m).a ≡ true → f.a < c.cells
  pub b_in : (named m).b ≡ true → f.b < c.cells
  pub region_in : (named m).region ≡ true → f.imm + f.b ≤ c.cells
  pub event_in : (named m).event ≡ true → f.d < c.events
  pub update_in : (named m).update ≡ true → f.d < c.updates

module _ (c : Counts) (n b x : ℕ) where
  by_cell : (u : Use) → is_cell u ≡ true → fits c n b u x ≡ true → x < c.cells
  unfolding fits
  by_cell Cell e f = ltb-true x c.cells f
  by_cell Unused e f = absurd (false≢true e)
  by_cell Event e f = absurd (false≢true e)
  by_cell Thread e f = absurd (false≢true e)
  by_cell Update e f = absurd (false≢true e)
  by_cell Number e f = absurd (false≢true e)
  by_cell Length e f = absurd (false≢true e)
  by_cell Region e f = absurd (false≢true e)
  by_cell Target e f = absurd (false≢true e)

  by_region : (u : Use) → is_region u ≡ true → fits c n b u x ≡ true → x + b ≤ c.cells
  unfolding fits
  by_region Region e f = leb-true (x + b) c.cells f
  by_region Cell e f = absurd (false≢true e)
  by_region Unused e f = absurd (false≢true e)
  by_region Event e f = absurd (false≢true e)
  by_region Thread e f = absurd (false≢true e)
  by_region Update e f = absurd (false≢true e)
  by_region Number e f = absurd (false≢true e)
  by_region Length e f = absurd (false≢true e)
  by_region Target e f = absurd (false≢true e)

  by_event : (u : Use) → is_event u ≡ true → fits c n b u x ≡ true → x < c.events
  unfolding fits
  by_event Event e f = ltb-true x c.events f
  by_event Cell e f = absurd (false≢true e)
  by_event Unused e f = absurd (false≢true e)
  by_event Thread e f = absurd (false≢true e)
  by_event Update e f = absurd (false≢true e)
  by_event Number e f = absurd (false≢true e)
  by_event Length e f = absurd (false≢true e)
  by_event Region e f = absurd (false≢true e)
  by_event Target e f = absurd (false≢true e)

  by_update : (u : Use) → is_update u ≡ true → fits c n b u x ≡ true → x < c.updates
  unfolding fits
  by_update Update e f = ltb-true x c.updates f
  by_update Cell e f = absurd (false≢true e)
  by_update Unused e f = absurd (false≢true e)
  by_update Event e f = absurd (false≢true e)
  by_update Thread e f = absurd (false≢true e)
  by_update Number e f = absurd (false≢true e)
  by_update Length e f = absurd (false≢true e)
  by_update Region e f = absurd (false≢true e)
  by_update Target e f = absurd (false≢true e)

follows : (a b : Bool) → implies a b ≡ true → a ≡ true → b ≡ true
follows true b e h = e
follows false b e h = absurd (false≢true h)

-- the parts of a conjunction of six tests; of four, with two that hold before them
pub record Six (a b c d e f : Bool) : Type 0 where
  pub p : a ≡ true
  pub q : b ≡ true
  pub r : c ≡ true
  pub s : d ≡ true
  pub t : e ≡ true
  pub u : f ≡ true

six : (a b c d e f : Bool) → a && b && c && d && e && f ≡ true → Six a b c d e f
six true true true true true true h = record { p = refl; q = refl; r = refl; s = refl; t = refl; u = refl }
six true true true true true false h = absurd (false≢true h)
six true true true true false f h = absurd (false≢true h)
six true true true false e f h = absurd (false≢true h)
six true true false d e f h = absurd (false≢true h)
six true false c d e f h = absurd (false≢true h)
six false b c d e f h = absurd (false≢true h)

pub in_cells : (c : Counts) (kind : Kind) (n : ℕ) (f : Frame) → Sound c kind n f → InCells c f (meaning_of f.op)
in_cells c kind n f s =
    let u : Uses = s.uses in
    let m : Cells = named (meaning_of f.op) in
    let g : Six (implies m.d (is_cell u.d)) (implies m.a (is_cell u.a)) (implies m.b (is_cell u.b)) (implies m.region (is_region u.imm)) (implies m.event (is_event u.d)) (implies m.update (is_update u.d)) = six _ _ _ _ _ _ (agreed f.op u s.known) in
    let h : Six true true (fits c n f.b u.d f.d) (fits c n f.b u.a f.a) (fits c n f.b u.b f.b) (fits c n f.b u.imm f.imm) = six true true _ _ _ _ s.fit in
    record {
      d_in = λ k. by_cell c n f.b f.d u.d (follows m.d (is_cell u.d) g.p k) h.r;
      a_in = λ k. by_cell c n f.b f.a u.a (follows m.a (is_cell u.a) g.q k) h.s;
      b_in = λ k. by_cell c n f.b f.b u.b (follows m.b (is_cell u.b) g.r k) h.t;
      region_in = λ k. by_region c n f.b f.imm u.imm (follows m.region (is_region u.imm) g.s k) h.u;
      event_in = λ k. by_event c n f.b f.d u.d (follows m.event (is_event u.d) g.t k) h.r;
      update_in = λ k. by_update c n f.b f.d u.d (follows m.update (is_update u.d) g.u k) h.r;
    }
