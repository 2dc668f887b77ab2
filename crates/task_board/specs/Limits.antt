-- The limits of the board, each by its name.
use Rattle.std.specs.Prelude.{ℕ, ◌^◌}

abbrev pub max_tasks : ℕ
max_tasks = 64

-- creates that a board accepts
abbrev pub max_creates : ℕ
max_creates = 2 ^ 60

-- turns of a step
abbrev pub max_step : ℕ
max_step = 1000
