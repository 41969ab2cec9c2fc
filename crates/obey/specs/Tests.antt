-- What an instruction asks before it does anything: leave, or why the run is over. Nothing public speaks of it.
use Rattle.std.specs.Prelude.{ℕ, Bool, ltb, if◌then◌else◌, Result, Ok, Err, ⊤}
use Rattle.kernel.specs.Search.{Found, none, found}
use Rattle.dues.specs.Codes.{last_time}
use Rattle.shows.specs.Shows.{Lists}
use Rattle.ending.specs.declared.Ending.{Ending}
use Rattle.ending.specs.declared.Ending.TheVariants.{TooLate, OutOfPhase, NoInputLeft, TooManyDueTimes}
use Rattle.turns.specs.declared.Stage.{Stage}
use Rattle.turns.specs.declared.Stage.TheVariants.{Before, During, Quiet, Limited}
use Rattle.turns.specs.Code.{is_past, full}

-- the next input
abbrev pub input_by : Found → Result ℕ Ending
input_by none = Err NoInputLeft
input_by (found v) = Ok v

-- to ask anything of the kernel
abbrev pub may_ask : (b : ℕ) → Stage → Result ⊤ Ending
may_ask b stage = if is_past b stage then Err OutOfPhase else Ok tt

-- to begin the phase
abbrev pub may_begin : Stage → Result ⊤ Ending
may_begin Before = Ok tt
may_begin During = Err OutOfPhase
may_begin Quiet = Err OutOfPhase
may_begin Limited = Err OutOfPhase

-- to ask for a due time q
abbrev pub has_room : (adds : Bool) → (q : ℕ) → Lists → Result ⊤ Ending
has_room adds q l = if ltb last_time q then Err TooLate else (if full adds q l then Err TooManyDueTimes else Ok tt)
