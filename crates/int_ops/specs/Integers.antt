-- Operations on integers as functions on whole numbers below 2^N (4.3.2). The width w says N, as `bits w`;
-- a signed reading subtracts 2^N from the upper half.
use Rattle.std.specs.Prelude.{ℕ, ◌+◌, ◌-◌, ◌*◌, ◌/◌, ◌%◌, ◌^◌, ◌==◌, nat_lt, nat_le, not, ℤ, pos, int_lt, int_le, int_div, int_rem, bit_and, bit_or, bit_xor, count_ones, Bool, if◌then◌else◌, Result, Ok, Err}
use Rattle.std.specs.Int.{Width, w8, w16, w32, w64, cast_signed, cast_unsigned, int_shr, leading_zeros, trailing_zeros, rotate_left, rotate_right}
use mir.Val.{bits}
use Rattle.wasm_ast.specs.declared.trap.Trap.{Trap}
use Rattle.wasm_ast.specs.declared.trap.Trap.TheVariants.{IntegerDivideByZero, IntegerOverflow}
use Rattle.wasm_ast.specs.declared.operators.UnaryOp.{UnaryOp}
use Rattle.wasm_ast.specs.declared.operators.UnaryOp.TheVariants.{Clz, Ctz, Popcnt}
use Rattle.wasm_ast.specs.declared.operators.BinaryOp.{BinaryOp}
use Rattle.wasm_ast.specs.declared.operators.BinaryOp.TheVariants.{Add, Sub, Mul, DivS, DivU, RemS, RemU, And, Or, Xor, Shl, ShrS, ShrU, Rotl, Rotr}
use Rattle.wasm_ast.specs.declared.operators.TestOp.{TestOp}
use Rattle.wasm_ast.specs.declared.operators.TestOp.TheVariants.{Eqz}
use Rattle.wasm_ast.specs.declared.operators.ConvertOp.{ConvertOp}
use Rattle.wasm_ast.specs.declared.operators.ConvertOp.TheVariants.{Wrap, ExtendS, ExtendU, I32From8S, I32From16S, I64From8S, I64From16S, I64From32S}
use Rattle.wasm_ast.specs.declared.operators.RelationOp.{RelationOp}
use Rattle.wasm_ast.specs.declared.operators.RelationOp.TheVariants.{Eq, Ne, LtS, LtU, GtS, GtU, LeS, LeU, GeS, GeU}

-- the signed reading of a number, and the number of a signed one
abbrev pub signed : Width → ℕ → ℤ
signed w a = cast_signed w a

abbrev pub unsigned : Width → ℤ → ℕ
unsigned w z = cast_unsigned w z

-- how far a shift or a rotation goes
abbrev pub distance : Width → ℕ → ℕ
distance w b = b % bits w

abbrev pub unary : Width → UnaryOp → ℕ → ℕ
unary w Clz a = leading_zeros w a
unary w Ctz a = trailing_zeros w a
unary w Popcnt a = count_ones a

-- the quotient toward zero, which is too large only for the least number by -1
abbrev pub quotient : Width → ℤ → Result ℕ Trap
quotient w z = if int_lt z (pos (2 ^ (bits w - 1))) then Ok (unsigned w z) else Err IntegerOverflow

abbrev pub unless_zero : (divisor : ℕ) → Result ℕ Trap → Result ℕ Trap
unless_zero b r = if b == 0 then Err IntegerDivideByZero else r

abbrev pub binary : Width → BinaryOp → ℕ → ℕ → Result ℕ Trap
binary w Add a b = Ok ((a + b) % 2 ^ bits w)
binary w Sub a b = Ok ((a + (2 ^ bits w - b)) % 2 ^ bits w)
binary w Mul a b = Ok ((a * b) % 2 ^ bits w)
binary w DivS a b = unless_zero b (quotient w (int_div (signed w a) (signed w b)))
binary w DivU a b = unless_zero b (Ok (a / b))
binary w RemS a b = unless_zero b (Ok (unsigned w (int_rem (signed w a) (signed w b))))
binary w RemU a b = unless_zero b (Ok (a % b))
binary w And a b = Ok (bit_and a b)
binary w Or a b = Ok (bit_or a b)
binary w Xor a b = Ok (bit_xor a b)
binary w Shl a b = Ok ((a * 2 ^ distance w b) % 2 ^ bits w)
binary w ShrS a b = Ok (unsigned w (int_shr (signed w a) (distance w b)))
binary w ShrU a b = Ok (a / 2 ^ distance w b)
binary w Rotl a b = Ok (rotate_left w a (distance w b))
binary w Rotr a b = Ok (rotate_right w a (distance w b))

abbrev pub test : TestOp → ℕ → Bool
test Eqz a = a == 0

abbrev pub compare : Width → RelationOp → ℕ → ℕ → Bool
compare w Eq a b = a == b
compare w Ne a b = not (a == b)
compare w LtS a b = int_lt (signed w a) (signed w b)
compare w LtU a b = nat_lt a b
compare w GtS a b = int_lt (signed w b) (signed w a)
compare w GtU a b = nat_lt b a
compare w LeS a b = int_le (signed w a) (signed w b)
compare w LeU a b = nat_le a b
compare w GeS a b = int_le (signed w b) (signed w a)
compare w GeU a b = nat_le b a

-- of i32 to i64 and back
abbrev pub wrap : ℕ → ℕ
wrap a = a % 2 ^ 32

abbrev pub extend_s : ℕ → ℕ
extend_s a = unsigned w64 (signed w32 a)

abbrev pub extend_u : ℕ → ℕ
extend_u a = a

-- the low bits, read as signed, in the width w (Core 2.0, 4.3.2)
abbrev pub extend_low : (low w : Width) → ℕ → ℕ
extend_low low w a = unsigned w (signed low (a % 2 ^ bits low))

-- what a conversion gives for a number (4.4.1)
abbrev pub converted : ConvertOp → ℕ → ℕ
converted Wrap a = wrap a
converted ExtendS a = extend_s a
converted ExtendU a = extend_u a
converted I32From8S a = extend_low w8 w32 a
converted I32From16S a = extend_low w16 w32 a
converted I64From8S a = extend_low w8 w64 a
converted I64From16S a = extend_low w16 w64 a
converted I64From32S a = extend_low w32 w64 a
