use Rattle.std.proofs.Common.{refl}
use Rattle.validator.proofs.Decided.{valid_by, invalid_by}
use Rattle.validator.proofs.laws.stores_and_sizes_are_typed.Goals as goal

pub returns-clause-i32 : goal.returns-clause-i32
returns-clause-i32 c _ = valid_by _ refl

pub returns-clause-i32_aligned_more : goal.returns-clause-i32_aligned_more
returns-clause-i32_aligned_more c _ = invalid_by _ refl

pub returns-clause-i64 : goal.returns-clause-i64
returns-clause-i64 c _ = valid_by _ refl

pub returns-clause-i64_aligned_more : goal.returns-clause-i64_aligned_more
returns-clause-i64_aligned_more c _ = invalid_by _ refl

pub returns-clause-i64_8 : goal.returns-clause-i64_8
returns-clause-i64_8 c _ = valid_by _ refl

pub returns-clause-i64_8_aligned_more : goal.returns-clause-i64_8_aligned_more
returns-clause-i64_8_aligned_more c _ = invalid_by _ refl

pub returns-clause-address_on_top : goal.returns-clause-address_on_top
returns-clause-address_on_top c _ = invalid_by _ refl

pub returns-clause-of_other_type : goal.returns-clause-of_other_type
returns-clause-of_other_type c _ = invalid_by _ refl

pub returns-clause-address_of_other_type : goal.returns-clause-address_of_other_type
returns-clause-address_of_other_type c _ = invalid_by _ refl

pub returns-clause-value_alone : goal.returns-clause-value_alone
returns-clause-value_alone c _ = invalid_by _ refl

pub returns-clause-with_result : goal.returns-clause-with_result
returns-clause-with_result c _ = invalid_by _ refl

pub returns-clause-without_memory : goal.returns-clause-without_memory
returns-clause-without_memory c _ = invalid_by _ refl

pub returns-clause-size : goal.returns-clause-size
returns-clause-size c = valid_by _ refl

pub returns-clause-size_of_other_type : goal.returns-clause-size_of_other_type
returns-clause-size_of_other_type c = invalid_by _ refl

pub returns-clause-size_without_memory : goal.returns-clause-size_without_memory
returns-clause-size_without_memory c = invalid_by _ refl

pub returns-clause-grow : goal.returns-clause-grow
returns-clause-grow c = valid_by _ refl

pub returns-clause-grow_by_nothing : goal.returns-clause-grow_by_nothing
returns-clause-grow_by_nothing c = invalid_by _ refl

pub returns-clause-grow_by_i64 : goal.returns-clause-grow_by_i64
returns-clause-grow_by_i64 c = invalid_by _ refl

pub returns-clause-grow_to_other_type : goal.returns-clause-grow_to_other_type
returns-clause-grow_to_other_type c = invalid_by _ refl

pub returns-clause-grow_without_memory : goal.returns-clause-grow_without_memory
returns-clause-grow_without_memory c = invalid_by _ refl
