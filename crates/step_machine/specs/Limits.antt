-- The limits of this profile on execution.
use Rattle.std.specs.Prelude.{ℕ, ◌^◌}

-- frames of a task at once
abbrev pub max_frames : ℕ
max_frames = 1024

-- locals and operands of a task at once, in all its frames
abbrev pub max_values : ℕ
max_values = 65536

-- the number of the turn that makes no reduction and traps
abbrev pub last_turn : ℕ
last_turn = 10 ^ 15

-- breakpoints of a task
abbrev pub max_breakpoints : ℕ
max_breakpoints = 32
