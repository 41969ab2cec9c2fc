use Rattle.std.proofs.Common.{◌≡◌, ◌*◌, drop}
use Rattle.std.proofs.lemmas.List.Edits.{sets}
use Rattle.lines.specs.Text.{text}
use Rattle.writer.proofs.put_lines.Given as goal

abbrev pub invariant-loop-i : goal.invariant-loop-i
invariant-loop-i l = sets l.bytes (17 * l.i) (text (drop l.i l.table)) ≡ sets l.initial.bytes 0 (text l.table)
