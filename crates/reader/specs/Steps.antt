-- How far the reading loop has come. Nothing public speaks of it.
use Rattle.std.specs.Prelude.{ℕ, ◌≤◌, ◌≡◌, List, length, take}
use Rattle.lines.specs.Text.{frames_from}

-- the first n words are the frames of the lines, as many as there is room for
pub record Decoded (bs ws : List ℕ) (n : ℕ) : Type 0 where
  pub lines : take n ws ≡ frames_from bs 0 (length ws)
  pub within : n ≤ length ws
