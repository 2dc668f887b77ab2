use Rattle.std.proofs.Common.{refl}
use Rattle.validator.proofs.Decided.{valid_by, invalid_by}
use Rattle.validator.proofs.laws.operators_on_two_are_typed.Goals as goal

pub returns-clause-i32_binary : goal.returns-clause-i32_binary
returns-clause-i32_binary c _ = valid_by _ refl

pub returns-clause-i64_binary : goal.returns-clause-i64_binary
returns-clause-i64_binary c _ = valid_by _ refl

pub returns-clause-other_type_on_top : goal.returns-clause-other_type_on_top
returns-clause-other_type_on_top c _ = invalid_by _ refl

pub returns-clause-other_type_below : goal.returns-clause-other_type_below
returns-clause-other_type_below c _ = invalid_by _ refl

pub returns-clause-binary_to_other_type : goal.returns-clause-binary_to_other_type
returns-clause-binary_to_other_type c _ = invalid_by _ refl

pub returns-clause-binary_of_one : goal.returns-clause-binary_of_one
returns-clause-binary_of_one c _ = invalid_by _ refl

pub returns-clause-binary_left_over : goal.returns-clause-binary_left_over
returns-clause-binary_left_over c _ = invalid_by _ refl

pub returns-clause-i32_compare : goal.returns-clause-i32_compare
returns-clause-i32_compare c _ = valid_by _ refl

pub returns-clause-i64_compare : goal.returns-clause-i64_compare
returns-clause-i64_compare c _ = valid_by _ refl

pub returns-clause-compare_to_its_type : goal.returns-clause-compare_to_its_type
returns-clause-compare_to_its_type c _ = invalid_by _ refl

pub returns-clause-compare_other_on_top : goal.returns-clause-compare_other_on_top
returns-clause-compare_other_on_top c _ = invalid_by _ refl

pub returns-clause-compare_other_below : goal.returns-clause-compare_other_below
returns-clause-compare_other_below c _ = invalid_by _ refl

pub returns-clause-compare_of_one : goal.returns-clause-compare_of_one
returns-clause-compare_of_one c _ = invalid_by _ refl
