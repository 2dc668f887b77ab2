-- Alignments that no access may have.
use Rattle.std.proofs.Common.{◌≡◌, ℕ, ◌<◌, ◌≤◌, ◌^◌, nat_le, nat_lt, arith}
use Rattle.std.proofs.lemmas.Bool.Decides.{nat_tests}
use Rattle.std.proofs.Math.Pow.{pow_mono}

pub unaligned : (align bytes : ℕ) → 4 ≤ align → bytes ≤ 8 → nat_lt align 4 ≡ nat_le (2 ^ align) bytes
unaligned align bytes far few =
    let big : 2 ^ 4 ≤ 2 ^ align = pow_mono far in
    let over : bytes < 2 ^ align = omega (arith, big) in
    grind (arith, nat_tests)
