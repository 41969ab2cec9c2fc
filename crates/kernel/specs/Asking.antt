-- When an instruction that asks for the due time t stops the run, where n due times stand and it adds one or not.
use Rattle.std.specs.Prelude.{ℕ, ◌≤◌, ◌<◌, ◌≡◌, Bool, true, ◌↔◌}
use Rattle.kernel.specs.Kernel.{at, Deed}
use Rattle.kernel.specs.Effect.{stops, asks_for, last_time}

pub record Asking (adds : Bool) (n t : ℕ) (x : Deed) : Type 0 where
  -- "17: a due time asked for is above 4,294,967,295, even if an earlier one would stay"; "17 before 23"
  pub too_late : (last_time < t) ↔ (asks_for adds n (at t) x ≡ stops 17)
  -- "23: a due time is to be added (a replacement adds none) and 48 stand"
  pub too_many : ((t ≤ last_time) × (adds ≡ true) × (48 ≤ n)) ↔ (asks_for adds n (at t) x ≡ stops 23)
