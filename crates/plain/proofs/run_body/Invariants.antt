use Rattle.plain.specs.Plain.{plain}
use mathlib.Core.Path.{◌≡◌}
use lib.ListN.{length}
use Rattle.plain.proofs.run_body.Given as goal

abbrev pub invariant-loop-place : goal.invariant-loop-place
invariant-loop-place l =
    (plain l.left l.body 0 (length l.body) l.place l.cells ≡ plain l.budget l.body 0 (length l.body) l.from l.initial.cells) × (length l.cells ≡ length l.initial.cells)

abbrev pub decreases-loop-place : goal.decreases-loop-place
decreases-loop-place l = l.left
