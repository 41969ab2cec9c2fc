-- What is wrong with an instruction.
use Rattle.std.specs.Prelude.{ℕ, ◌+◌, Bool, true, ◌&&◌, Option, Some, None, Result, Ok, Err, ⊤, eqb, ltb, leb, if◌then◌else◌}
use Rattle.frame.specs.declared.Frame.{Frame}
use Rattle.frame.specs.declared.Counts.{Counts}
use Rattle.frame.specs.declared.Kind.{Kind}
use Rattle.frame.specs.declared.Use.{Use}
use Rattle.frame.specs.declared.Use.TheVariants.{Unused, Cell, Event, Thread, Update, Number, Length, Region, Target}
use Rattle.frame.specs.declared.Uses.{Uses}
use Rattle.frame.specs.declared.Fault.{Fault}
use Rattle.frame.specs.declared.Fault.TheVariants.{Op, Field}
use Rattle.frame.specs.Ops.{uses_of, held_by}

-- a field x in range for its use, in a body of n instructions; b is the frame's field b:
-- "unused ones are zero"; "here b is a length, at least 1, and imm + b ≤ C"; "target 0 to the body's length, which is its end"
unfoldable pub fits : Counts → (n b : ℕ) → Use → ℕ → Bool
fits c n b Unused x = eqb x 0
fits c n b Cell x = ltb x c.cells
fits c n b Event x = ltb x c.events
fits c n b Thread x = ltb x c.threads
fits c n b Update x = ltb x c.updates
fits c n b Number x = true
fits c n b Length x = leb 1 x
fits c n b Region x = leb (x + b) c.cells
fits c n b Target x = leb x n

abbrev pub all_fit : Counts → (n : ℕ) → Uses → Frame → Bool
all_fit c n u f =
    fits c n f.b u.d f.d && fits c n f.b u.a f.a
    && fits c n f.b u.b f.b && fits c n f.b u.imm f.imm

-- "4 op: op unknown, or not allowed in that body"; "5 field: unused field not zero, or used field out of range"; 0 for none
abbrev pub fault_as : Option Uses → Counts → Kind → (n : ℕ) → Frame → ℕ
fault_as None c kind n f = 4
fault_as (Some u) c kind n f = if held_by kind u.bodies then (if all_fit c n u f then 0 else 5) else 4

-- the number of the fault of an instruction in a body of this kind with n instructions
unfoldable pub instruction_fault : Counts → Kind → (n : ℕ) → Frame → ℕ
instruction_fault c kind n f = fault_as (uses_of f.op) c kind n f

-- the paper's number of each answer
abbrev pub fault_number : Result ⊤ Fault → ℕ
fault_number (Ok _) = 0
fault_number (Err Op) = 4
fault_number (Err Field) = 5
