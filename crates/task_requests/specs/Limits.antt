-- The limits of events, each by its name.
use Rattle.std.specs.Prelude.{ℕ}

-- turns of a slice
abbrev pub max_budget : ℕ
max_budget = 1000000
