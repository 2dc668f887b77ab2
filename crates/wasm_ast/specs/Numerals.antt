-- Signed constants in decimal digits, as the text format writes them (6.3.1).
use Rattle.std.specs.Prelude.{ℕ, ◌-◌, ◌^◌, List, ◌++◌, codes, decimal, nat_lt, if◌then◌else◌}

-- the constant whose two's complement in this number of bits is n
abbrev pub signed : (bits n : ℕ) → List ℕ
signed bits n = if nat_lt n (2 ^ (bits - 1)) then decimal n else codes "-" ++ decimal (2 ^ bits - n)
