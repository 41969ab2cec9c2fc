-- The fields of a frame.
use Rattle.std.specs.Prelude.{ℕ, ◌/◌, ◌%◌, ◌^◌}
use Rattle.frame.specs.declared.Frame.{Frame}

-- "A frame is eight bytes: op, d, a, b, and imm (four bytes, high byte first). In a table a frame is one 64-bit number, op in the top byte."
abbrev pub fields : ℕ → Frame
fields f =
    record { op = f / 2 ^ 56; d = f / 2 ^ 48 % 256; a = f / 2 ^ 40 % 256; b = f / 2 ^ 32 % 256; imm = f % 2 ^ 32 }
