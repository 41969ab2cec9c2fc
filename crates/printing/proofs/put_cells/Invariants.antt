use Rattle.std.proofs.Common.{◌≡◌, ◌*◌, drop}
use Rattle.std.proofs.lemmas.List.Edits.{sets}
use Rattle.program.specs.Printing.{cell_lines}
use Rattle.printing.proofs.put_cells.Given as goal

abbrev pub invariant-loop-i : goal.invariant-loop-i
invariant-loop-i l = sets l.out (9 * l.i) (cell_lines (drop l.i l.cells)) ≡ sets l.initial.out 0 (cell_lines l.cells)
