-- Numbers by their lowest bytes.
use Rattle.std.proofs.Common.{◌≡◌, ℕ, zero, suc, ◌+◌, ◌*◌, ◌/◌, ◌%◌, ◌^◌, ◌<◌, sym, ap, ◌∙◌, arith}
use Rattle.std.proofs.Math.Arith.{mod-mul}
use Rattle.std.proofs.Math.Nat.{mod-one, pow-suc}
use Rattle.linear_memory.specs.Memory.{little_endian, low_bytes}

positive : (k : ℕ) → 0 < 256 ^ k
positive zero = omega arith
positive (suc k) =
    let before = positive k in
    let power : 256 ^ suc k ≡ 256 ^ k * 256 = pow-suc 256 k in
    omega (arith, before, power)

pub read_back : (count n : ℕ) → little_endian (low_bytes count n) ≡ n % 256 ^ count
read_back zero n = sym (mod-one n)
read_back (suc k) n =
    let rest = read_back k (n / 256) in
    let power : 256 ^ suc k ≡ 256 ^ k * 256 = pow-suc 256 k in
    let split : n % (256 ^ k * 256) ≡ (n / 256 % 256 ^ k) * 256 + n % 256 = mod-mul n (positive k) (omega arith) in
    let whole : n % 256 ^ suc k ≡ (n / 256 % 256 ^ k) * 256 + n % 256 = ap (λ m. n % m) power ∙ split in
    omega (arith, rest, whole)
