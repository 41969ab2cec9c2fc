-- From its first state to its end, each law as an arm of the code has it; the lines of the bodies, and what is asked. Assumes nothing.
use Prim.Native.Nat.{ℕ, zero, suc, ◌+◌, ◌-◌, ◌%◌, ◌<◌, ◌≤◌}
use mathlib.Core.Path.{◌≡◌, refl, sym, ap, ◌∙◌}
use mathlib.Core.List.{List, [], ◌∷◌, ◌++◌}
use native.Mathlib.Omega.{arith}
use native.Mathlib.Numerals.{add-one}
use borrow.Author.Tests.{lt-ltb, le-ltb, ne_eqb}
use lib.ListN.{length, get_or, set, take, drop, length-drop, replicate}
use Rattle.std.proofs.lemmas.List.{get_or-take}
use Rattle.std.proofs.lemmas.Grind.{get_or_after_one}
use lib.Seq.{length-take-le, get_or-set_same, get_or-set_other}
use Rattle.frame.specs.Fields.{fields}
use Rattle.frame.specs.declared.Frame.{Frame}
use Rattle.image.specs.Layout.{lengths, frame, counts, bodies, len, first, due}
use Rattle.image.specs.Judge.{judged, Said, say}
use Rattle.image.proofs.Walk.{due_above, first_next, first_grows}
use Rattle.image.proofs.Accepted.{accepted_has, few_lines, Counted, counted}
use Rattle.kernel.specs.Machine.{Job}
use Rattle.kernel.specs.Run.{Answer as Told, asked as asked_for, Outcome, runs}
use Rattle.dues.specs.Codes.{for_nothing}
use Rattle.dues.specs.Laws as P
use Rattle.shows.specs.Shows.{Lists, lists}
use Rattle.turns.specs.Stands.{Firsts}
use Rattle.turns.specs.Code.{Code, turns, answered, told, refused_at, started, first_lists, zeroed}

-- The cells at first -----------------------------------------------------------------------------------------------

pub zeroed_is : (n : ℕ) (cs : List ℕ) → n ≤ length cs → zeroed n cs ≡ replicate n 0 ++ drop n cs
unfolding zeroed
zeroed_is zero cs h = refl
zeroed_is (suc n) [] h = absurd (omega arith)
zeroed_is (suc n) (x ∷ cs) h = ap (λ (l : List ℕ). 0 ∷ l) (zeroed_is n cs (omega arith))

pub zeroed_by : (n : ℕ) (fs cs : List ℕ) → n ≤ length cs → fs ≡ replicate (length (take n cs)) 0 → fs ++ drop n cs ≡ zeroed n cs
zeroed_by n fs cs h e = rw (e, length-take-le n cs h) (sym (zeroed_is n cs h))

-- The lines of the bodies ------------------------------------------------------------------------------------------

module _ (t fs : List ℕ) (k at : ℕ) where
  pub firsts_none : Firsts t 0 fs
  firsts_none = record { lines = λ i h. absurd (omega arith) }

  pub firsts_more : Firsts t k fs → at ≡ first t k → k < length fs → Firsts t (k + 1) (set fs k at)
  firsts_more f e l =
      record { lines = λ i h. P.by_size (get_or (set fs k at) i 0 ≡ first t i) i k (λ q. same i (omega arith)) (λ q. get_or-set_other fs k i at 0 (λ z. omega arith) ∙ f.lines i q) }
    where
      same : (i : ℕ) → i ≡ k → get_or (set fs k at) i 0 ≡ first t i
      same i q = rw (q, get_or-set_same fs k at 0 l) e

  -- after the loop
  pub firsts_end : (b : ℕ) → Firsts t k fs → at ≡ first t k → k ≡ b → b < length fs → Firsts t (b + 1) (set fs b at)
  firsts_end b f e q l = rw (← q) (firsts_more f e (omega arith))

pub first_begins : (t : List ℕ) (b : ℕ) → b ≡ bodies t → 1 + b ≡ first t 0
unfolding first lengths
first_begins t b e = omega arith

-- the lines of the bodies' frames
abbrev pub lines : ℕ → List ℕ → List ℕ
lines b t = take (1 + b - 1) (drop 1 t)

module _ (t : List ℕ) (b : ℕ) (good : (judged t).number ≡ 0) (all : b ≡ bodies t) where
  pub lines_there : 1 + b ≤ length t
  lines_there = omega (arith, (accepted_has t good).all_due, due_above t)

  pub lines_many : length (lines b t) ≡ b
  lines_many =
      let l = length-drop 1 t in
      let e : 1 + b - 1 ≡ b = omega arith in
      length-take-le (1 + b - 1) (drop 1 t) (omega (arith, lines_there, l)) ∙ e

  module _ (k at : ℕ) (f : Frame) (there : k < length (lines b t)) (g : f ≡ fields (get_or (lines b t) k 0)) (e : at ≡ first t k) where
    line_is : f ≡ fields (get_or t (k + 1) 0)
    line_is =
        let n : 1 + k ≡ k + 1 = omega arith in
        g ∙ ap fields (get_or-take (1 + b - 1) (drop 1 t) k 0 (omega (arith, lines_many)) ∙ get_or_after_one t k 0 ∙ ap (λ (i : ℕ). get_or t i 0) n)

    pub line_next : at + f.imm ≡ first t (k + 1)
    unfolding len
    line_next =
        rw line_is (ap (λ (x : ℕ). x + (frame t (k + 1)).imm) e ∙ sym (first_next t k) ∙ ap (first t) (sym (add-one k)))

    pub line_fits : (m : ℕ) → length t < m → at + f.imm < m
    unfolding due
    line_fits m l =
        omega (arith, lines_many, line_next, (accepted_has t good).all_due, first_grows t (k + 1) (bodies t) (omega (arith, lines_many)))

-- the answer of the turns, with the cells
pub run_told : (t ch ins fs : List ℕ) (budget k : ℕ) (l : Lists) (ps cs : List ℕ) (b d : Code) (a : Told) → b ≡ started t fs (length l.waits) budget l ps cs → d ≡ turns t ch ins fs (length b.lists.waits) k b → a ≡ answered budget d.now → record { answer = a; cells = d.cells } ≡ told budget (turns t ch ins fs (length l.waits) k (started t fs (length l.waits) budget l ps cs))
unfolding told
run_told t ch ins fs budget k l ps cs b d a e g h =
    let q : d ≡ turns t ch ins fs (length l.waits) k (started t fs (length l.waits) budget l ps cs) = g ∙ ap (λ (x : Code). turns t ch ins fs (length x.lists.waits) k x) e in
    rw (← q, h)

-- The lists at first, cut from longer ones -------------------------------------------------------------------------

pub cut_counted : (e : ℕ) (l : List ℕ) → e ≤ length l → e ≡ length (take e l)
cut_counted e l h = sym (length-take-le e l h)

cut_same : (m e x : ℕ) → e ≤ m → take e (replicate m x) ≡ replicate e x
cut_same m zero x h = refl
cut_same zero (suc e) x h = absurd (omega arith)
cut_same (suc m) (suc e) x h = ap (λ (l : List ℕ). x ∷ l) (cut_same m e x (omega arith))

pub laid : (t ch ins fs : List ℕ) (budget th ev up k : ℕ) (cs : List ℕ) (o : Outcome) → th ≤ 16 → ev ≤ 32 → up ≤ 16
    → o ≡ told budget (turns t ch ins fs (length (take th (replicate 16 for_nothing))) k (started t fs (length (take th (replicate 16 for_nothing))) budget (lists (take ev (replicate 32 for_nothing)) (take th (replicate 16 for_nothing)) (take ev (replicate 32 0))) (take (1 + th + up) (replicate 33 0)) cs))
    → o ≡ told budget (turns t ch ins fs th k (started t fs th budget (first_lists th ev) (replicate (1 + th + up) 0) cs))
laid t ch ins fs budget th ev up k cs o h g f e =
    let w : length (take th (replicate 16 for_nothing)) ≡ th = sym (cut_counted th (replicate 16 for_nothing) h) in
    rw (← cut_same 32 ev for_nothing g, ← cut_same 32 ev 0 g, ← cut_same 33 (1 + th + up) 0 (omega arith)) (rw (w, cut_same 16 th for_nothing h) at e)

-- A run of an accepted table ---------------------------------------------------------------------------------------

pub header_there : (t : List ℕ) → (judged t).number ≡ 0 → 0 < length t
header_there t good = omega (arith, (accepted_has t good).all_due, due_above t)

module _ (t : List ℕ) (good : (judged t).number ≡ 0) (f : Frame) (e : f ≡ fields (get_or t 0 0)) where
  pub header : Counted t ((accepted_has t good).faultless 0 (omega (arith, (accepted_has t good).all_due, due_above t)))
  header = counted t ((accepted_has t good).faultless 0 (omega (arith, (accepted_has t good).all_due, due_above t)))

  pub few_counts : (f.d ≤ 16) × (f.a ≤ 32) × (f.b ≤ 16) × (f.imm ≤ 256)
  few_counts = rw e (header.threads, header.events, header.updates, header.cells)

  pub all_bodies : 1 + f.d + f.b ≡ bodies t
  unfolding bodies counts
  all_bodies = rw e

-- What is asked, as the code's tests have it -----------------------------------------------------------------------

module _ (j : Job) (lent cs : List ℕ) (a : Told) where
  abbrev IsAsked : Type 0
  IsAsked = record { answer = a; cells = cs } ≡ asked_for j lent

  pub asked_choices : 4096 < length j.choices → a ≡ refused_at 9 1 → cs ≡ lent → IsAsked
  unfolding asked_for
  asked_choices h e q = rw (lt-ltb 4096 (length j.choices) h, e, q)

  module _ (h : length j.choices ≤ 4096) where
    pub asked_inputs : 1024 < length j.inputs → a ≡ refused_at 9 2 → cs ≡ lent → IsAsked
    unfolding asked_for
    asked_inputs g e q = rw (le-ltb 4096 (length j.choices) h, lt-ltb 1024 (length j.inputs) g, e, q)

    module _ (g : length j.inputs ≤ 1024) where
      pub asked_room : length lent < 256 → a ≡ refused_at 8 0 → cs ≡ lent → IsAsked
      unfolding asked_for
      asked_room r e q =
          rw (le-ltb 4096 (length j.choices) h, le-ltb 1024 (length j.inputs) g, lt-ltb (length lent) 256 r, e, q)

      module _ (r : 256 ≤ length lent) where
        pub asked_run : (n : ℕ) → say 0 n ≡ judged j.table → record { answer = a; cells = cs } ≡ runs j lent → IsAsked
        unfolding asked_for
        asked_run n w e =
            let y : (judged j.table).number ≡ 0 = ap (λ (x : Said). x.number) (sym w) in
            rw (le-ltb 4096 (length j.choices) h, le-ltb 1024 (length j.inputs) g, le-ltb (length lent) 256 r, y) e

        pub asked_refused : (v : Said) → v ≡ judged j.table → (v.number ≡ 0 → ⊥) → (judged j.table).line < 4294967296 → a ≡ refused_at v.number v.line → cs ≡ lent → IsAsked
        unfolding asked_for
        asked_refused v w z s e q =
            let y : (judged j.table).number ≡ v.number = ap (λ (x : Said). x.number) (sym w) in
            let k : v.line ≡ (judged j.table).line = ap (λ (x : Said). x.line) w in
            let u : (judged j.table).line % 4294967296 ≡ (judged j.table).line = omega arith in
            rw (le-ltb 4096 (length j.choices) h, le-ltb 1024 (length j.inputs) g, le-ltb (length lent) 256 r, y, ne_eqb v.number 0 z, e, q, k, u)

pub judged_low : (t : List ℕ) → (judged t).line < 4294967296
judged_low t = omega (arith, few_lines t)

pub judged_good : (n : ℕ) (t : List ℕ) → say 0 n ≡ judged t → (judged t).number ≡ 0
judged_good n t w = ap (λ (x : Said). x.number) (sym w)
