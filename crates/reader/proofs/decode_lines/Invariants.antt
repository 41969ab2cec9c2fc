use Rattle.std.proofs.Common.{◌≡◌, ◌≤◌, ◌-◌, ◌*◌, ◌++◌, length, take}
use Rattle.lines.specs.Text.{frames_from}
use Rattle.reader.proofs.decode_lines.Given as goal

abbrev pub invariant-loop-i : goal.invariant-loop-i
invariant-loop-i l =
    (17 * l.i ≤ length l.bytes) × (take l.i l.words ++ frames_from l.bytes l.i (length l.initial.words - l.i) ≡ frames_from l.bytes 0 (length l.initial.words))
