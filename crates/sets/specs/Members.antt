-- One step through a set.
use Rattle.std.specs.Prelude.{ℕ, ◌≡◌, ◌≢◌, Option, MatchOption}
use Rattle.sets.specs.Sets.{without, least_of}

-- the least number is taken out of what is left; nothing comes where nothing is left
abbrev pub TakesLeast : (old : ℕ) → Option ℕ → (new : ℕ) → Type 0
TakesLeast old r new = MatchOption r ((old ≡ 0) × (new ≡ 0)) (λ i. (old ≢ 0) × (i ≡ least_of old) × (new ≡ without old i))
