use Rattle.std.proofs.Common.{refl}
use Rattle.validator.proofs.Decided.{valid_by, invalid_by}
use Rattle.validator.proofs.laws.drop_and_select_are_typed.Goals as goal

pub returns-clause-drop_i32 : goal.returns-clause-drop_i32
returns-clause-drop_i32 c = valid_by _ refl

pub returns-clause-drop_i64 : goal.returns-clause-drop_i64
returns-clause-drop_i64 c = valid_by _ refl

pub returns-clause-drop_of_nothing : goal.returns-clause-drop_of_nothing
returns-clause-drop_of_nothing c = invalid_by _ refl

pub returns-clause-drop_keeps_nothing : goal.returns-clause-drop_keeps_nothing
returns-clause-drop_keeps_nothing c = invalid_by _ refl

pub returns-clause-drop_of_one : goal.returns-clause-drop_of_one
returns-clause-drop_of_one c = invalid_by _ refl

pub returns-clause-select_i32 : goal.returns-clause-select_i32
returns-clause-select_i32 c = valid_by _ refl

pub returns-clause-select_i64 : goal.returns-clause-select_i64
returns-clause-select_i64 c = valid_by _ refl

pub returns-clause-select_of_two_types : goal.returns-clause-select_of_two_types
returns-clause-select_of_two_types c = invalid_by _ refl

pub returns-clause-select_of_two_types_below : goal.returns-clause-select_of_two_types_below
returns-clause-select_of_two_types_below c = invalid_by _ refl

pub returns-clause-select_to_the_type_below : goal.returns-clause-select_to_the_type_below
returns-clause-select_to_the_type_below c = invalid_by _ refl

pub returns-clause-select_without_condition : goal.returns-clause-select_without_condition
returns-clause-select_without_condition c = invalid_by _ refl

pub returns-clause-condition_of_other_type : goal.returns-clause-condition_of_other_type
returns-clause-condition_of_other_type c = invalid_by _ refl

pub returns-clause-select_to_other_type : goal.returns-clause-select_to_other_type
returns-clause-select_to_other_type c = invalid_by _ refl

pub returns-clause-select_to_nothing : goal.returns-clause-select_to_nothing
returns-clause-select_to_nothing c = invalid_by _ refl

pub returns-clause-select_of_one : goal.returns-clause-select_of_one
returns-clause-select_of_one c = invalid_by _ refl

pub returns-clause-select_of_unknown_i32 : goal.returns-clause-select_of_unknown_i32
returns-clause-select_of_unknown_i32 c = valid_by _ refl

pub returns-clause-select_of_unknown_i64 : goal.returns-clause-select_of_unknown_i64
returns-clause-select_of_unknown_i64 c = valid_by _ refl

pub returns-clause-select_of_one_known : goal.returns-clause-select_of_one_known
returns-clause-select_of_one_known c = valid_by _ refl

pub returns-clause-select_of_other_known : goal.returns-clause-select_of_other_known
returns-clause-select_of_other_known c = invalid_by _ refl

pub returns-clause-select_of_two_known : goal.returns-clause-select_of_two_known
returns-clause-select_of_two_known c = invalid_by _ refl

pub returns-clause-unknown_with_other_condition : goal.returns-clause-unknown_with_other_condition
returns-clause-unknown_with_other_condition c = invalid_by _ refl
