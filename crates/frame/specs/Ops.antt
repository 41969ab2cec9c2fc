-- The one table of the op numbers: what each op means, what it uses its fields for, and the bodies that may hold it.
use Rattle.std.specs.Prelude.{ℕ, Bool, true, false, List, [], ◌∷◌, Option, Some, None, eqb, if◌then◌else◌}
use Rattle.word.specs.Word.{Result, add_u, sub_u, mul_u, quot_u, rem_u, add_s, sub_s, mul_s, quot_s, rem_s, and_b, or_b, not_b, equal, differ, lt_u, le_u, lt_s, le_s, is_zero}
use Rattle.frame.specs.declared.Use.{Use}
use Rattle.frame.specs.declared.Use.TheVariants.{Unused, Cell, Event, Thread, Update, Number, Length, Region, Target}
use Rattle.frame.specs.declared.Bodies.{Bodies}
use Rattle.frame.specs.declared.Bodies.TheVariants.{All, MainAndThreads, Threads, Main}
use Rattle.frame.specs.declared.Uses.{Uses}
use Rattle.frame.specs.declared.Kind.{Kind}
use Rattle.frame.specs.declared.Kind.TheVariants.{Main as InMain, Thread as InThread, Update as InUpdate}

-- The meanings, A and B being the values of the cells a and b:
pub data Meaning : Type 0 where
  takes_imm takes_input : Meaning  -- d takes imm; the next input
  one : (ℕ → ℕ) → Meaning  -- d takes what is made of A
  two : (ℕ → ℕ → ℕ) → Meaning  -- d takes what is made of A and B
  may : (ℕ → ℕ → Result) → Meaning  -- the same, or the run stops
  load store goto goto_if : Meaning
  holds : ℕ → Meaning  -- A is not 0, or the run stops with this number
  wait_event wait_time notify notify_after request suspend resume start_limit start : Meaning
  unknown : Meaning  -- no op of the table

pub record Row : Type 0 where
  pub number : ℕ
  pub meaning : Meaning
  pub uses : Uses

abbrev op : (number : ℕ) → Meaning → (d a b imm : Use) → Bodies → Row
op number meaning d a b imm bodies =
    record { number = number; meaning = meaning; uses = record { d = d; a = a; b = b; imm = imm; bodies = bodies } }

-- "The op decides the fields used; unused ones are zero. Fields d, a and b name cells unless said otherwise."
-- "Main may hold all but 60 and 61, threads all but 67 and 68, updates all but 60 to 62 and 64 to 68."
abbrev pub ops : List Row
ops =
    -- d takes imm; the value of a; the next input
    op 0x01 takes_imm Cell Unused Unused Number All
    ∷ op 0x02 (one (λ x. x)) Cell Cell Unused Unused All
    ∷ op 0x03 takes_input Cell Unused Unused Unused All
    -- unsigned a + b, a - b, a * b, quotient, remainder
    ∷ op 0x10 (two (add_u 32)) Cell Cell Cell Unused All
    ∷ op 0x11 (two (sub_u 32)) Cell Cell Cell Unused All
    ∷ op 0x12 (two (mul_u 32)) Cell Cell Cell Unused All
    ∷ op 0x13 (may quot_u) Cell Cell Cell Unused All
    ∷ op 0x14 (may rem_u) Cell Cell Cell Unused All
    -- the same five, signed
    ∷ op 0x18 (may (add_s 32)) Cell Cell Cell Unused All
    ∷ op 0x19 (may (sub_s 32)) Cell Cell Cell Unused All
    ∷ op 0x1a (may (mul_s 32)) Cell Cell Cell Unused All
    ∷ op 0x1b (may (quot_s 32)) Cell Cell Cell Unused All
    ∷ op 0x1c (may (rem_s 32)) Cell Cell Cell Unused All
    -- bitwise and, or of a, b; complement of a
    ∷ op 0x20 (two (and_b 32)) Cell Cell Cell Unused All
    ∷ op 0x21 (two (or_b 32)) Cell Cell Cell Unused All
    ∷ op 0x22 (one (not_b 32)) Cell Cell Unused Unused All
    -- a = b, a ≠ b, unsigned <, ≤, signed <, ≤; a is 0
    ∷ op 0x28 (two equal) Cell Cell Cell Unused All
    ∷ op 0x29 (two differ) Cell Cell Cell Unused All
    ∷ op 0x2a (two lt_u) Cell Cell Cell Unused All
    ∷ op 0x2b (two le_u) Cell Cell Cell Unused All
    ∷ op 0x2c (two (lt_s 32)) Cell Cell Cell Unused All
    ∷ op 0x2d (two (le_s 32)) Cell Cell Cell Unused All
    ∷ op 0x2e (one is_zero) Cell Cell Unused Unused All
    -- load d from, store d to, place (value of a) of the region of b cells from cell imm
    ∷ op 0x30 load Cell Cell Length Region All
    ∷ op 0x31 store Cell Cell Length Region All
    -- goto imm; goto imm if a is not 0
    ∷ op 0x40 goto Unused Unused Unused Target All
    ∷ op 0x41 goto_if Unused Cell Unused Target All
    -- assert a; assume a
    ∷ op 0x50 (holds 12) Unused Cell Unused Unused All
    ∷ op 0x51 (holds 13) Unused Cell Unused Unused All
    -- wait for event d; wait for the time in a
    ∷ op 0x60 wait_event Event Unused Unused Unused Threads
    ∷ op 0x61 wait_time Unused Cell Unused Unused Threads
    -- notify event d at once; after the delay in a
    ∷ op 0x62 notify Event Unused Unused Unused MainAndThreads
    ∷ op 0x63 notify_after Event Cell Unused Unused All
    -- request update d; suspend thread d; resume thread d
    ∷ op 0x64 request Update Unused Unused Unused MainAndThreads
    ∷ op 0x65 suspend Thread Unused Unused Unused MainAndThreads
    ∷ op 0x66 resume Thread Unused Unused Unused MainAndThreads
    -- start with limit imm; start without limit
    ∷ op 0x67 start_limit Unused Unused Unused Number Main
    ∷ op 0x68 start Unused Unused Unused Unused Main
    ∷ []

abbrev pub look : List Row → ℕ → Option Uses
look [] n = None
look (r ∷ rs) n = if eqb n r.number then Some r.uses else look rs n

unfoldable pub uses_of : ℕ → Option Uses
uses_of n = look ops n

abbrev pub look_meaning : List Row → ℕ → Meaning
look_meaning [] n = unknown
look_meaning (r ∷ rs) n = if eqb n r.number then r.meaning else look_meaning rs n

unfoldable pub meaning_of : ℕ → Meaning
meaning_of n = look_meaning ops n

-- may a body of this kind hold an op of these bodies
abbrev pub held_by : Kind → Bodies → Bool
held_by kind All = true
held_by InMain MainAndThreads = true
held_by InThread MainAndThreads = true
held_by InUpdate MainAndThreads = false
held_by InMain Threads = false
held_by InThread Threads = true
held_by InUpdate Threads = false
held_by InMain Main = true
held_by InThread Main = false
held_by InUpdate Main = false
