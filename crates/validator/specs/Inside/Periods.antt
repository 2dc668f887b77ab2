-- Rows of bytes that repeat themselves.
use Rattle.std.specs.Prelude.{◌≡◌, ℕ, ◌+◌, ◌<◌, List, length, get_or}

-- each byte is there again after that number of bytes
abbrev pub Repeats : (period : ℕ) → (bytes : List ℕ) → Type 0
Repeats period bytes =
    (i d : ℕ) → period + i < length bytes → get_or bytes (period + i) d ≡ get_or bytes i d
