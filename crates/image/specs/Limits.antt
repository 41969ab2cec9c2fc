-- The limits of an image, by name. The code has them as the associated constants of its type `Image`.
use Rattle.std.specs.Prelude.{ℕ}

-- "threads T (0 to 16)", "events E (0 to 32)", "updates U (0 to 16)", "cells C (1 to 256)"
abbrev pub most_threads : ℕ
most_threads = 16

abbrev pub most_events : ℕ
most_events = 32

abbrev pub most_updates : ℕ
most_updates = 16

abbrev pub most_cells : ℕ
most_cells = 256

-- "All lengths together are at most 1,024."
abbrev pub most_instructions : ℕ
most_instructions = 1024

-- "An image has at most 1,058 lines."
abbrev pub most_lines : ℕ
most_lines = 1058

-- "9 job: over 4,096 choices, or over 1,024 inputs"
abbrev pub most_choices : ℕ
most_choices = 4096

abbrev pub most_inputs : ℕ
most_inputs = 1024
