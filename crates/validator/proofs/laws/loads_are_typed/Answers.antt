use Rattle.std.proofs.Common.{refl}
use Rattle.validator.proofs.Decided.{valid_by, invalid_by}
use Rattle.validator.proofs.laws.loads_are_typed.Goals as goal

pub returns-clause-i32 : goal.returns-clause-i32
returns-clause-i32 c _ = valid_by _ refl

pub returns-clause-i32_aligned_more : goal.returns-clause-i32_aligned_more
returns-clause-i32_aligned_more c _ = invalid_by _ refl

pub returns-clause-i64 : goal.returns-clause-i64
returns-clause-i64 c _ = valid_by _ refl

pub returns-clause-i64_aligned_more : goal.returns-clause-i64_aligned_more
returns-clause-i64_aligned_more c _ = invalid_by _ refl

pub returns-clause-i64_aligned_less : goal.returns-clause-i64_aligned_less
returns-clause-i64_aligned_less c _ = valid_by _ refl

pub returns-clause-i32_8 : goal.returns-clause-i32_8
returns-clause-i32_8 c _ = valid_by _ refl

pub returns-clause-i32_8_aligned_more : goal.returns-clause-i32_8_aligned_more
returns-clause-i32_8_aligned_more c _ = invalid_by _ refl

pub returns-clause-i64_16 : goal.returns-clause-i64_16
returns-clause-i64_16 c _ = valid_by _ refl

pub returns-clause-i64_16_aligned_more : goal.returns-clause-i64_16_aligned_more
returns-clause-i64_16_aligned_more c _ = invalid_by _ refl

pub returns-clause-i64_32 : goal.returns-clause-i64_32
returns-clause-i64_32 c _ = valid_by _ refl

pub returns-clause-i64_32_aligned_more : goal.returns-clause-i64_32_aligned_more
returns-clause-i64_32_aligned_more c _ = invalid_by _ refl

pub returns-clause-address_of_other_type : goal.returns-clause-address_of_other_type
returns-clause-address_of_other_type c _ = invalid_by _ refl

pub returns-clause-to_other_type : goal.returns-clause-to_other_type
returns-clause-to_other_type c _ = invalid_by _ refl

pub returns-clause-to_other_type_i64 : goal.returns-clause-to_other_type_i64
returns-clause-to_other_type_i64 c _ = invalid_by _ refl

pub returns-clause-without_address : goal.returns-clause-without_address
returns-clause-without_address c _ = invalid_by _ refl

pub returns-clause-without_memory : goal.returns-clause-without_memory
returns-clause-without_memory c _ = invalid_by _ refl
