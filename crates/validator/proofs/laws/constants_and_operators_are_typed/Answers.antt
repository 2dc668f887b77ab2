use Rattle.std.proofs.Common.{refl}
use Rattle.validator.proofs.Decided.{valid_by, invalid_by}
use Rattle.validator.proofs.laws.constants_and_operators_are_typed.Goals as goal

pub returns-clause-i32_const : goal.returns-clause-i32_const
returns-clause-i32_const c _ = valid_by _ refl

pub returns-clause-i64_const : goal.returns-clause-i64_const
returns-clause-i64_const c _ = valid_by _ refl

pub returns-clause-i32_const_of_other_type : goal.returns-clause-i32_const_of_other_type
returns-clause-i32_const_of_other_type c = invalid_by _ refl

pub returns-clause-i64_const_of_other_type : goal.returns-clause-i64_const_of_other_type
returns-clause-i64_const_of_other_type c = invalid_by _ refl

pub returns-clause-const_left_over : goal.returns-clause-const_left_over
returns-clause-const_left_over c = invalid_by _ refl

pub returns-clause-i32_unary : goal.returns-clause-i32_unary
returns-clause-i32_unary c _ = valid_by _ refl

pub returns-clause-i64_unary : goal.returns-clause-i64_unary
returns-clause-i64_unary c _ = valid_by _ refl

pub returns-clause-unary_of_other_type : goal.returns-clause-unary_of_other_type
returns-clause-unary_of_other_type c _ = invalid_by _ refl

pub returns-clause-unary_to_other_type : goal.returns-clause-unary_to_other_type
returns-clause-unary_to_other_type c _ = invalid_by _ refl

pub returns-clause-unary_of_nothing : goal.returns-clause-unary_of_nothing
returns-clause-unary_of_nothing c _ = invalid_by _ refl

pub returns-clause-unary_of_i32 : goal.returns-clause-unary_of_i32
returns-clause-unary_of_i32 c _ = invalid_by _ refl

pub returns-clause-i32_test : goal.returns-clause-i32_test
returns-clause-i32_test c _ = valid_by _ refl

pub returns-clause-i64_test : goal.returns-clause-i64_test
returns-clause-i64_test c _ = valid_by _ refl

pub returns-clause-test_of_other_type : goal.returns-clause-test_of_other_type
returns-clause-test_of_other_type c _ = invalid_by _ refl

pub returns-clause-test_to_its_type : goal.returns-clause-test_to_its_type
returns-clause-test_to_its_type c _ = invalid_by _ refl

pub returns-clause-test_of_nothing : goal.returns-clause-test_of_nothing
returns-clause-test_of_nothing c _ = invalid_by _ refl

pub returns-clause-wrap : goal.returns-clause-wrap
returns-clause-wrap c = valid_by _ refl

pub returns-clause-extend_signed : goal.returns-clause-extend_signed
returns-clause-extend_signed c = valid_by _ refl

pub returns-clause-extend_unsigned : goal.returns-clause-extend_unsigned
returns-clause-extend_unsigned c = valid_by _ refl

pub returns-clause-wrap_of_i32 : goal.returns-clause-wrap_of_i32
returns-clause-wrap_of_i32 c = invalid_by _ refl

pub returns-clause-wrap_to_i64 : goal.returns-clause-wrap_to_i64
returns-clause-wrap_to_i64 c = invalid_by _ refl

pub returns-clause-extend_signed_of_i64 : goal.returns-clause-extend_signed_of_i64
returns-clause-extend_signed_of_i64 c = invalid_by _ refl

pub returns-clause-extend_signed_to_i32 : goal.returns-clause-extend_signed_to_i32
returns-clause-extend_signed_to_i32 c = invalid_by _ refl

pub returns-clause-extend_unsigned_of_i64 : goal.returns-clause-extend_unsigned_of_i64
returns-clause-extend_unsigned_of_i64 c = invalid_by _ refl

pub returns-clause-extend_unsigned_to_i32 : goal.returns-clause-extend_unsigned_to_i32
returns-clause-extend_unsigned_to_i32 c = invalid_by _ refl
