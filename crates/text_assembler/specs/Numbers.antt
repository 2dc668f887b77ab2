-- Integers (6.3.1). No number of the format reaches 2^64, so none that does is read.
use Rattle.std.specs.Prelude.{ℕ, ◌+◌, ◌-◌, ◌*◌, ◌^◌, List, [], ◌∷◌, Bool, true, false, ◌&&◌, nat_lt, nat_le, ◌==◌, if◌then◌else◌, Result, Ok, Err, Option, Some, None}
use Rattle.text_assembler.specs.declared.fault.Fault.{Fault}
use Rattle.text_assembler.specs.declared.fault.Fault.TheVariants.{Malformed}
use Rattle.text_assembler.specs.Reading.{◌>>=◌, need}
use Rattle.text_assembler.specs.Characters.{underscore, plus, minus, digit}

-- a value that there has to be
abbrev pub given : {A : Type 0} → Option A → Result A Fault
given None = Err Malformed
given (Some x) = Ok x

-- the number n with one more digit
unfoldable pub with_digit : (base n : ℕ) → ℕ → Result ℕ Fault
with_digit base n c =
    given (digit base c) >>= λ d. need (nat_lt (base * n + d) (2 ^ 64)) (Ok (base * n + d))

-- The number that digits after the number n give. One `_` may be between two digits: a digit is due
-- at the front and after each `_`.
unfoldable pub more_digits : (base n : ℕ) → (due : Bool) → List ℕ → Result ℕ Fault
more_digits base n due [] = if due then Err Malformed else Ok n
more_digits base n due (c ∷ cs) =
    if c == underscore then (if due then Err Malformed else more_digits base n true cs)
    else (with_digit base n c >>= λ m. more_digits base m false cs)

-- a number without a sign: decimal digits, or `0x` and hexadecimal digits
unfoldable pub number : List ℕ → Result ℕ Fault
number (c ∷ d ∷ cs) =
    if c == 0x30 && d == 0x78 then more_digits 16 0 true cs else more_digits 10 0 true (c ∷ d ∷ cs)
number word = more_digits 10 0 true word

-- an index, a size, an offset or an alignment: a number of 32 bits
unfoldable pub small_number : List ℕ → Result ℕ Fault
small_number word = number word >>= λ n. need (nat_lt n (2 ^ 32)) (Ok n)

-- the two's complement of -n
abbrev pub negated : (bits n : ℕ) → ℕ
negated bits n = if n == 0 then 0 else 2 ^ bits - n

-- A constant of this many bits. Without a sign its number is below 2^bits; with one its value is
-- from -2^(bits-1) to 2^(bits-1) - 1.
unfoldable pub constant : (bits : ℕ) → List ℕ → Result ℕ Fault
constant bits [] = Err Malformed
constant bits (c ∷ cs) =
    if c == plus then (number cs >>= λ n. need (nat_lt n (2 ^ (bits - 1))) (Ok n))
    else if c == minus
    then (number cs >>= λ n. need (nat_le n (2 ^ (bits - 1))) (Ok (negated bits n)))
    else (number (c ∷ cs) >>= λ n. need (nat_lt n (2 ^ bits)) (Ok n))
