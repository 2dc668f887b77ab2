-- How numbers are encoded (5.2.2), by cases. A byte is a number below 256.
--
-- IsUnsigned bits bytes n rest, and IsSigned: the bytes begin with an encoding of n in that many bits, and
-- the rest follows it. A byte below 128 is the last one; a byte from 128 on has the low seven bits, and what
-- follows it encodes the number of the bits above them. So there are at most bits / 7 bytes, rounded up.
use Rattle.std.specs.Prelude.{◌≡◌, ℕ, ◌+◌, ◌-◌, ◌*◌, ◌^◌, ◌<◌, ◌≤◌, List, [], ◌∷◌, ◌⊎◌}

-- an unsigned number in one byte: the bits above these are zero
abbrev pub IsLastUnsigned : (bits byte n : ℕ) → Type 0
IsLastUnsigned bits byte n = (byte < 2 ^ bits) × (n ≡ byte)

abbrev pub IsUnsigned : (bits : ℕ) → (bytes : List ℕ) → (n : ℕ) → (rest : List ℕ) → Type 0
IsUnsigned bits [] n rest = ⊥
IsUnsigned bits (b ∷ bs) n rest =
    ((b < 128) × IsLastUnsigned bits b n × (rest ≡ bs))
    ⊎ ((128 ≤ b) × (b < 256) × (7 < bits) × (high : ℕ) × IsUnsigned (bits - 7) bs high rest
    × (n ≡ 128 * high + (b - 128)))

-- a signed number in one byte, as its two's complement in that many bits (modulo 2 ^ bits): from 0 up, or
-- below 0 if bit 6 is set; the bits above are copies of the sign, so the byte is below 2 ^ (bits - 1), or
-- from 128 - 2 ^ (bits - 1) on
abbrev pub IsLastSigned : (bits byte n : ℕ) → Type 0
IsLastSigned bits byte n =
    ((byte < 64) × (2 * byte < 2 ^ bits) × (n ≡ byte))
    ⊎ ((64 ≤ byte) × (256 ≤ 2 * byte + 2 ^ bits) × (n + 128 ≡ byte + 2 ^ bits))

abbrev pub IsSigned : (bits : ℕ) → (bytes : List ℕ) → (n : ℕ) → (rest : List ℕ) → Type 0
IsSigned bits [] n rest = ⊥
IsSigned bits (b ∷ bs) n rest =
    ((b < 128) × IsLastSigned bits b n × (rest ≡ bs))
    ⊎ ((128 ≤ b) × (b < 256) × (7 < bits) × (high : ℕ) × IsSigned (bits - 7) bs high rest
    × (n ≡ 128 * high + (b - 128)))

abbrev pub IsU32 : (bytes : List ℕ) → (n : ℕ) → (rest : List ℕ) → Type 0
IsU32 = IsUnsigned 32
