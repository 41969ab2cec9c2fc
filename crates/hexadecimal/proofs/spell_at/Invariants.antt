use Rattle.std.proofs.Common.{◌≡◌}
use Rattle.std.proofs.lemmas.List.Edits.{sets}
use Rattle.hexadecimal.specs.Hex.{hex}
use Rattle.hexadecimal.proofs.spell_at.Given as goal

abbrev pub invariant-loop-j : goal.invariant-loop-j
invariant-loop-j l = sets l.bytes l.at (hex l.j l.left) ≡ sets l.initial.bytes l.at (hex l.n l.x)
