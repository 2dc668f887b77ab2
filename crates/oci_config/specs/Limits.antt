-- The limits of this profile on a process.
use Rattle.std.specs.Prelude.{ℕ}

-- bytes that an output stream takes
abbrev pub max_output : ℕ
max_output = 65536

-- arguments of a process
abbrev pub max_args : ℕ
max_args = 64

-- entries of an environment
abbrev pub max_entries : ℕ
max_entries = 64

-- bytes of all arguments and entries together, one more counted for each
abbrev pub max_text_bytes : ℕ
max_text_bytes = 65536

-- pages of a memory for which the config sets no limit
abbrev pub default_pages : ℕ
default_pages = 16
