-- The parts of what a plain instruction comes to that are arithmetic and jumps.
use Rattle.std.specs.Prelude.{ℕ, eqb, if◌then◌else◌}
use Rattle.word.specs.Word.{Result, value, stop}
use Rattle.ending.specs.Ending.{ending_of}
use Rattle.effect.specs.declared.Eff.{Eff}
use Rattle.effect.specs.declared.Eff.TheVariants.{Put, Next, Go, Stop}

-- cell d takes a result, or the run stops
abbrev pub put_of : ℕ → Result → Eff
put_of d (value x) = Put d x
put_of d (stop n) = Stop (ending_of n)

-- goto where the cell is not 0
abbrev pub jump_of : (x to : ℕ) → Eff
jump_of x to = if eqb x 0 then Next else Go to
