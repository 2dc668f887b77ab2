-- Numbers by sevens of bits.
use Rattle.std.proofs.Common.{◌≡◌, ℕ, ◌+◌, ◌-◌, ◌*◌, ◌^◌, ◌<◌, ◌≤◌, ap, ◌∙◌, pow-add, arith}
use Rattle.std.proofs.Math.Pow.{pow_mono}

pub seven : (n : ℕ) → 7 ≤ n → 2 ^ n ≡ 128 * 2 ^ (n - 7)
seven n h = let e : n ≡ 7 + (n - 7) = omega arith in ap (λ k. 2 ^ k) e ∙ pow-add 2 7 (n - 7)

pub small : (n b : ℕ) → 7 ≤ n → b < 128 → b < 2 ^ n
small n b h l = omega (arith, pow_mono h)

pub fits : (n m b : ℕ) → 7 < n → m < 2 ^ (n - 7) → b < 256 → 128 * m + (b - 128) < 2 ^ n
fits n m b h l k = omega (arith, seven n (omega arith))

pub within : (n x : ℕ) → n ≤ 64 → x < 2 ^ n → x < 2 ^ 64
within n x h l = omega (arith, pow_mono h)
