-- What is shown of a memory.
use Rattle.std.specs.Prelude.{ℕ, List, nat_le, if◌then◌else◌, Option, None}
use Rattle.linear_memory.specs.Memory.{Memory, read_at}

-- the most bytes at a time
abbrev pub max_peek : ℕ
max_peek = 256

-- the bytes of a range, if they are few enough and all are inside
abbrev pub peeked : Memory → (address length : ℕ) → Option (List ℕ)
peeked m address length = if nat_le length max_peek then read_at m address length else None
