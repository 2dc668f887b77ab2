-- The results of operations on integers, and the values that loads give, are within the ranges of their types
-- (4.3.2, 4.4.4).
use Rattle.std.proofs.Common.{◌≡◌, ℕ, zero, suc, ◌+◌, ◌-◌, ◌*◌, ◌/◌, ◌%◌, ◌^◌, ◌==◌, ◌<◌, ◌≤◌, List, [], ◌∷◌, ◌++◌, take, drop, length, All, Bool, true, false, nat_lt, cond, Ok, Err, refl, sym, ap, ◌∙◌, subst, arith}
use Rattle.std.specs.Prelude.{Result, ℤ, pos, negsuc, int_lt, int_div, int_rem, bit_and, bit_or, bit_xor, count_ones, FitsSigned}
use Rattle.std.specs.Int.{Width, w8, w16, w32, w64, int_shr, leading_zeros, trailing_zeros, rotate_left, rotate_right}
use Rattle.std.proofs.lemmas.Bool.Decides.{nat_tests}
use Rattle.std.proofs.lemmas.Nat.{pow_pos, pow-add, leading_le, trailing_le, ones_le_self, and_le_l, or_lt, xor_lt, mod_below}
use Rattle.std.proofs.lemmas.List.{length-take}
use Rattle.std.proofs.lemmas.List.Elements.{All-nil, All-cons, All-head, All-tail, All-append, All-take, All-drop}
use Rattle.std.proofs.Math.Nat.{div-le_self, mod-le}
use Rattle.std.proofs.Math.Pow.{pow_mono, pow-sub-lt}
use mir.Val.{bits, of_z, to_z}
use mir.ValLaws.{to_z-Fits, of_z_fits, sfits_le}
use lib.Signed.{mag_rem, mag_shr}
use Rattle.wasm_ast.specs.declared.trap.Trap.{Trap}
use Rattle.wasm_ast.specs.declared.trap.Trap.TheVariants.{IntegerDivideByZero, IntegerOverflow}
use Rattle.wasm_ast.specs.declared.values.ValType.{ValType}
use Rattle.wasm_ast.specs.declared.values.ValType.TheVariants as type
use Rattle.wasm_ast.specs.declared.values.Value.{Value}
use Rattle.wasm_ast.specs.declared.values.Value.TheVariants.{I32, I64}
use Rattle.wasm_ast.specs.declared.operators.UnaryOp.{UnaryOp}
use Rattle.wasm_ast.specs.declared.operators.UnaryOp.TheVariants.{Clz, Ctz, Popcnt}
use Rattle.wasm_ast.specs.declared.operators.BinaryOp.{BinaryOp}
use Rattle.wasm_ast.specs.declared.operators.BinaryOp.TheVariants.{Add, Sub, Mul, DivS, DivU, RemS, RemU, And, Or, Xor, Shl, ShrS, ShrU, Rotl, Rotr}
use Rattle.wasm_ast.specs.declared.operators.LoadOp.{LoadOp}
use Rattle.wasm_ast.specs.declared.operators.LoadOp.TheVariants as load
use Rattle.wasm_ast.specs.Types.{type_of, value_of}
use Rattle.wasm_ast.specs.Ranged.{RangedValue}
use Rattle.wasm_ast.specs.Access.{load_type, load_bytes, is_sign_extended}
use Rattle.int_ops.specs.Integers as integers
use Rattle.linear_memory.specs.Memory.{Memory, range, with_range, little_endian, low_bytes}
use Rattle.step_machine.specs.Effects.{width_of, sign_extended, loaded_value}
use Rattle.step_machine.specs.Inside.FlatState.{word_of, narrow}

-- below 2^N, for N bits
abbrev pub IsBelow : Width → ℕ → Type 0
IsBelow w n = n < 2 ^ bits w

abbrev pub IsByte : ℕ → Type 0
IsByte b = b < 256

module _ (w : Width) where
  pub rest_of : (n : ℕ) → n % 2 ^ bits w < 2 ^ bits w
  rest_of n = mod_below n (2 ^ bits w) (pow_pos (bits w))

  less : (m n : ℕ) → m ≤ n → IsBelow w n → IsBelow w m
  less m n h g = omega (arith, h, g)

  -- the bits of a signed number that is below 2^N
  pub bits_below : (z : ℤ) → ((n : ℕ) → z ≡ pos n → IsBelow w n) → IsBelow w (of_z w z)
  bits_below (pos n) h = h n refl
  bits_below (negsuc n) h = pow-sub-lt (bits w) (omega arith)

  signed_remainder : (a b : ℕ) → IsBelow w a → IsBelow w (of_z w (int_rem (to_z w a) (to_z w b)))
  signed_remainder a b h =
      (of_z_fits w (int_rem (to_z w a) (to_z w b))
      (sfits_le (mag_rem (to_z w a) (to_z w b)) (to_z-Fits w a (record { fits = h })))).fits

  signed_shift : (a k : ℕ) → IsBelow w a → IsBelow w (of_z w (int_shr (to_z w a) k))
  signed_shift a k h =
      (of_z_fits w (int_shr (to_z w a) k)
      (sfits_le (mag_shr (to_z w a) (2 ^ k)) (to_z-Fits w a (record { fits = h })))).fits

  divided : (a b : ℕ) → IsBelow w a → IsBelow w (a / b)
  divided a b h = less (a / b) a (div-le_self a b) h

  rotated_left : (a b : ℕ) → IsBelow w a → IsBelow w (rotate_left w a b)
  rotated_left a b h =
      or_lt (bits w) ((a * 2 ^ (b % bits w)) % 2 ^ bits w) (a / 2 ^ ((bits w - b % bits w) % bits w))
      (rest_of (a * 2 ^ (b % bits w)))
      (divided a (2 ^ ((bits w - b % bits w) % bits w)) h)

  rotated_right : (a b : ℕ) → IsBelow w a → IsBelow w (rotate_right w a b)
  rotated_right a b h =
      or_lt (bits w) (a / 2 ^ (b % bits w)) ((a * 2 ^ ((bits w - b % bits w) % bits w)) % 2 ^ bits w)
      (divided a (2 ^ (b % bits w)) h) (rest_of (a * 2 ^ ((bits w - b % bits w) % bits w)))

  -- of the answers of divisions
  abbrev BelowIfOk : Result ℕ Trap → Type 0
  BelowIfOk r = (n : ℕ) → r ≡ Ok n → IsBelow w n

  one : (m : ℕ) → IsBelow w m → BelowIfOk (Ok m)
  one m h n e = let same : m ≡ n = cc in subst (IsBelow w) same h

  by_divisor : (b : Bool) (r : Result ℕ Trap) (t : Trap) → BelowIfOk r → BelowIfOk (cond b (Err t) r)
  by_divisor true r t h n e = cc
  by_divisor false r t h n e = h n e

  quotient_below : (z : ℤ) → bits w - 1 < bits w → BelowIfOk (integers.quotient w z)
  quotient_below z more = by_test (int_lt z (pos (2 ^ (bits w - 1)))) refl
    where
      small : (n : ℕ) → int_lt z (pos (2 ^ (bits w - 1))) ≡ true → z ≡ pos n → IsBelow w n
      small n e is =
          let t : nat_lt n (2 ^ (bits w - 1)) ≡ true = sym (ap (λ y. int_lt y (pos (2 ^ (bits w - 1)))) is) ∙ e in
          let l : n < 2 ^ (bits w - 1) = grind (arith, nat_tests) in
          let g : 2 ^ (bits w - 1) ≤ 2 ^ bits w = pow_mono (omega arith) in
          omega (arith, l, g)

      by_test :
          (b : Bool) → int_lt z (pos (2 ^ (bits w - 1))) ≡ b → (n : ℕ)
          → cond b (Ok (of_z w z)) (Err IntegerOverflow) ≡ Ok n → IsBelow w n
      by_test true e n is = one (of_z w z) (bits_below z (λ k same. small k e same)) n is
      by_test false e n is = cc

  pub unary_below : (op : UnaryOp) (a : ℕ) → bits w < 2 ^ bits w → IsBelow w a → IsBelow w (integers.unary w op a)
  unary_below Clz a few h = less (leading_zeros w a) (bits w) (leading_le (bits w) a) few
  unary_below Ctz a few h = less (trailing_zeros w a) (bits w) (trailing_le (bits w) a) few
  unary_below Popcnt a few h = less (count_ones a) a (ones_le_self a) h

  pub binary_below :
      (op : BinaryOp) (a b : ℕ) → bits w - 1 < bits w → IsBelow w a → IsBelow w b → BelowIfOk (integers.binary w op a b)
  binary_below Add a b s h g = one ((a + b) % 2 ^ bits w) (rest_of (a + b))
  binary_below Sub a b s h g = one ((a + (2 ^ bits w - b)) % 2 ^ bits w) (rest_of (a + (2 ^ bits w - b)))
  binary_below Mul a b s h g = one ((a * b) % 2 ^ bits w) (rest_of (a * b))
  binary_below DivS a b s h g =
      by_divisor (b == 0) (integers.quotient w (int_div (to_z w a) (to_z w b))) IntegerDivideByZero
      (quotient_below (int_div (to_z w a) (to_z w b)) s)
  binary_below DivU a b s h g = by_divisor (b == 0) (Ok (a / b)) IntegerDivideByZero (one (a / b) (divided a b h))
  binary_below RemS a b s h g =
      by_divisor (b == 0) (Ok (of_z w (int_rem (to_z w a) (to_z w b)))) IntegerDivideByZero
      (one (of_z w (int_rem (to_z w a) (to_z w b))) (signed_remainder a b h))
  binary_below RemU a b s h g =
      by_divisor (b == 0) (Ok (a % b)) IntegerDivideByZero (one (a % b) (less (a % b) a (mod-le a b) h))
  binary_below And a b s h g = one (bit_and a b) (less (bit_and a b) a (and_le_l a b) h)
  binary_below Or a b s h g = one (bit_or a b) (or_lt (bits w) a b h g)
  binary_below Xor a b s h g = one (bit_xor a b) (xor_lt (bits w) a b h g)
  binary_below Shl a b s h g =
      one ((a * 2 ^ integers.distance w b) % 2 ^ bits w) (rest_of (a * 2 ^ integers.distance w b))
  binary_below ShrS a b s h g =
      one (of_z w (int_shr (to_z w a) (integers.distance w b))) (signed_shift a (integers.distance w b) h)
  binary_below ShrU a b s h g = one (a / 2 ^ integers.distance w b) (divided a (2 ^ integers.distance w b) h)
  binary_below Rotl a b s h g = one (rotate_left w a (integers.distance w b)) (rotated_left a (integers.distance w b) h)
  binary_below Rotr a b s h g =
      one (rotate_right w a (integers.distance w b)) (rotated_right a (integers.distance w b) h)

  pub extended_below : (from n : ℕ) → n < 2 ^ from → from ≤ bits w → IsBelow w (sign_extended w from n)
  extended_below from n h few = by_test (nat_lt n (2 ^ (from - 1)))
    where
      wider : 2 ^ from ≤ 2 ^ bits w
      wider = pow_mono few

      by_test : (b : Bool) → IsBelow w (cond b n (n + (2 ^ bits w - 2 ^ from)))
      by_test true = omega (arith, h, wider)
      by_test false = omega (arith, h, wider)

-- ---- at the two types

pub ranged_value : (t : ValType) (n : ℕ) → IsBelow (width_of t) n → RangedValue (value_of t n)
ranged_value type.I32 n h = h
ranged_value type.I64 n h = h

pub word_below : (t : ValType) (v : Value) → type_of v ≡ t → RangedValue v → IsBelow (width_of t) (word_of v)
word_below type.I32 (I32 n) e h = h
word_below type.I32 (I64 n) e h = cc
word_below type.I64 (I32 n) e h = cc
word_below type.I64 (I64 n) e h = h

pub narrow_word : (t : ValType) (v : Value) → type_of v ≡ t → RangedValue v → narrow t (word_of v) ≡ word_of v
narrow_word type.I32 (I32 n) e h = omega (arith, h)
narrow_word type.I32 (I64 n) e h = cc
narrow_word type.I64 v e h = refl

pub unary_ranged :
    (t : ValType) (op : UnaryOp) (a : ℕ) → IsBelow (width_of t) a
    → RangedValue (value_of t (integers.unary (width_of t) op a))
unary_ranged type.I32 op a h = unary_below w32 op a (omega arith) h
unary_ranged type.I64 op a h = unary_below w64 op a (omega arith) h

pub binary_ranged : (t : ValType) (op : BinaryOp) (a b n : ℕ) → IsBelow (width_of t) a → IsBelow (width_of t) b
    → integers.binary (width_of t) op a b ≡ Ok n → RangedValue (value_of t n)
binary_ranged type.I32 op a b n h g e = binary_below w32 op a b (omega arith) h g n e
binary_ranged type.I64 op a b n h g e = binary_below w64 op a b (omega arith) h g n e

pub wrap_below : (a : ℕ) → integers.wrap a < 2 ^ 32
wrap_below a = omega arith

pub extend_s_below : (a : ℕ) → a < 2 ^ 32 → integers.extend_s a < 2 ^ 64
extend_s_below a h = bits_below w64 (to_z w32 a) small
  where
    f : FitsSigned w32 (to_z w32 a)
    f = to_z-Fits w32 a (record { fits = h })

    small : (n : ℕ) → to_z w32 a ≡ pos n → n < 2 ^ 64
    small n e = let g = (subst (FitsSigned w32) e f).sfits in omega (arith, g)

-- ---- bytes

pub bytes_below : (bs : List ℕ) → All IsByte bs → little_endian bs < 2 ^ (8 * length bs)
bytes_below [] h = omega arith
bytes_below (b ∷ bs) h =
    let first = All-head IsByte b bs h in
    let others = bytes_below bs (All-tail IsByte b bs h) in
    let more : 8 * suc (length bs) ≡ 8 + 8 * length bs = omega arith in
    let power :
    2 ^ (8 * suc (length bs)) ≡ 2 ^ 8 * 2 ^ (8 * length bs) = ap (λ k. 2 ^ k) more ∙ pow-add 2 8 (8 * length bs) in
    omega (arith, first, others, power)

pub low_are_bytes : (k n : ℕ) → All IsByte (low_bytes k n)
low_are_bytes zero n = All-nil IsByte
low_are_bytes (suc k) n = All-cons IsByte (n % 256) (low_bytes k (n / 256)) (omega arith) (low_are_bytes k (n / 256))

pub range_bytes : (m : Memory) (a n : ℕ) → All IsByte m.bytes → All IsByte (range m a n)
range_bytes m a n h = All-take IsByte n (drop a m.bytes) (All-drop IsByte a m.bytes h)

pub written_bytes :
    (m : Memory) (a : ℕ) (bs : List ℕ) → All IsByte m.bytes → All IsByte bs → All IsByte (with_range m a bs).bytes
written_bytes m a bs h g =
    All-append IsByte (take a m.bytes) (bs ++ drop (a + length bs) m.bytes) (All-take IsByte a m.bytes h)
    (All-append IsByte bs (drop (a + length bs) m.bytes) g (All-drop IsByte (a + length bs) m.bytes h))

few_bits : (op : LoadOp) → 8 * load_bytes op ≤ bits (width_of (load_type op))
few_bits load.I32 = omega arith
few_bits load.I64 = omega arith
few_bits load.I32From8S = omega arith
few_bits load.I32From8U = omega arith
few_bits load.I32From16S = omega arith
few_bits load.I32From16U = omega arith
few_bits load.I64From8S = omega arith
few_bits load.I64From8U = omega arith
few_bits load.I64From16S = omega arith
few_bits load.I64From16U = omega arith
few_bits load.I64From32S = omega arith
few_bits load.I64From32U = omega arith

pub loaded_ranged :
    (op : LoadOp) (m : Memory) (a : ℕ) → All IsByte m.bytes → RangedValue (loaded_value op (range m a (load_bytes op)))
loaded_ranged op m a h = ranged_value (load_type op) _ (by_sign (is_sign_extended op))
  where
    bs : List ℕ
    bs = range m a (load_bytes op)

    number : little_endian bs < 2 ^ (8 * load_bytes op)
    number =
        let n = bytes_below bs (range_bytes m a (load_bytes op) h) in
        let l = length-take (load_bytes op) (drop a m.bytes) in
        let g : 2 ^ (8 * length bs) ≤ 2 ^ (8 * load_bytes op) = pow_mono (omega (arith, l)) in
        omega (arith, n, g)

    by_sign : (b : Bool)
        → IsBelow (width_of (load_type op))
        (cond b (sign_extended (width_of (load_type op)) (8 * load_bytes op) (little_endian bs)) (little_endian bs))
    by_sign true = extended_below (width_of (load_type op)) (8 * load_bytes op) (little_endian bs) number (few_bits op)
    by_sign false =
        let g :
        2 ^ (8 * load_bytes op) ≤ 2 ^ bits (width_of (load_type op)) =
        pow_mono (few_bits op) in omega (arith, number, g)

-- ---- sign extensions

extend_low_below :
    (low w : Width) (a : ℕ) → a % 2 ^ bits low < 2 ^ bits low
    → ((n : ℕ) → FitsSigned low (pos n) → n < 2 ^ bits w) → integers.extend_low low w a < 2 ^ bits w
extend_low_below low w a less small =
    bits_below w (to_z low (a % 2 ^ bits low))
    (λ n e. small n (subst (FitsSigned low) e (to_z-Fits low (a % 2 ^ bits low) (record { fits = less }))))

pub extend_8_32_below : (a : ℕ) → integers.extend_low w8 w32 a < 2 ^ 32
extend_8_32_below a =
    extend_low_below w8 w32 a (omega arith) (λ n f. let g = f.sfits in omega (arith, g))

pub extend_16_32_below : (a : ℕ) → integers.extend_low w16 w32 a < 2 ^ 32
extend_16_32_below a =
    extend_low_below w16 w32 a (omega arith) (λ n f. let g = f.sfits in omega (arith, g))

pub extend_8_64_below : (a : ℕ) → integers.extend_low w8 w64 a < 2 ^ 64
extend_8_64_below a =
    extend_low_below w8 w64 a (omega arith) (λ n f. let g = f.sfits in omega (arith, g))

pub extend_16_64_below : (a : ℕ) → integers.extend_low w16 w64 a < 2 ^ 64
extend_16_64_below a =
    extend_low_below w16 w64 a (omega arith) (λ n f. let g = f.sfits in omega (arith, g))

pub extend_32_64_below : (a : ℕ) → integers.extend_low w32 w64 a < 2 ^ 64
extend_32_64_below a =
    extend_low_below w32 w64 a (omega arith) (λ n f. let g = f.sfits in omega (arith, g))
