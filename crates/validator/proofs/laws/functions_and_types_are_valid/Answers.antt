use Rattle.std.proofs.Common.{refl}
use Rattle.validator.proofs.Decided.{valid_by, invalid_by}
use Rattle.validator.proofs.laws.functions_and_types_are_valid.Goals as goal

pub returns-clause-plain : goal.returns-clause-plain
returns-clause-plain c = valid_by _ refl

pub returns-clause-no_result : goal.returns-clause-no_result
returns-clause-no_result c = invalid_by _ refl

pub returns-clause-result_of_other_type : goal.returns-clause-result_of_other_type
returns-clause-result_of_other_type c = invalid_by _ refl

pub returns-clause-result_left_over : goal.returns-clause-result_left_over
returns-clause-result_left_over c = invalid_by _ refl

pub returns-clause-no_type_of_function : goal.returns-clause-no_type_of_function
returns-clause-no_type_of_function c = invalid_by _ refl

pub returns-clause-second_function : goal.returns-clause-second_function
returns-clause-second_function c = invalid_by _ refl

pub returns-clause-type_of_import : goal.returns-clause-type_of_import
returns-clause-type_of_import c = valid_by _ refl

pub returns-clause-no_type_of_import : goal.returns-clause-no_type_of_import
returns-clause-no_type_of_import c = invalid_by _ refl

pub returns-clause-second_import : goal.returns-clause-second_import
returns-clause-second_import c = invalid_by _ refl

pub returns-clause-two_results : goal.returns-clause-two_results
returns-clause-two_results c = valid_by _ refl

pub returns-clause-two_results_in_order : goal.returns-clause-two_results_in_order
returns-clause-two_results_in_order c = valid_by _ refl

pub returns-clause-two_results_out_of_order : goal.returns-clause-two_results_out_of_order
returns-clause-two_results_out_of_order c = invalid_by _ refl

pub returns-clause-one_result_of_two : goal.returns-clause-one_result_of_two
returns-clause-one_result_of_two c = invalid_by _ refl

pub returns-clause-many_parameters : goal.returns-clause-many_parameters
returns-clause-many_parameters c = valid_by _ refl
