use Rattle.std.proofs.Common.{refl}
use lib.Count.{count_leading_zeros, count_trailing_zeros, ones}
use Rattle.int_ops.proofs.laws.bits_are_bits.Goals as goal

pub returns-clause-clz : goal.returns-clause-clz
unfolding count_leading_zeros
returns-clause-clz c = refl

pub returns-clause-clz_one : goal.returns-clause-clz_one
unfolding count_leading_zeros
returns-clause-clz_one c = refl

pub returns-clause-ctz : goal.returns-clause-ctz
unfolding count_trailing_zeros
returns-clause-ctz c = refl

pub returns-clause-ctz_eight : goal.returns-clause-ctz_eight
unfolding count_trailing_zeros
returns-clause-ctz_eight c = refl

pub returns-clause-popcnt : goal.returns-clause-popcnt
unfolding ones
returns-clause-popcnt c = refl
