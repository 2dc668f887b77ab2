use Rattle.std.proofs.Common.{refl}
use Rattle.validator.proofs.Decided.{valid_by, invalid_by}
use Rattle.validator.proofs.laws.calls_are_typed.Goals as goal

pub returns-clause-import : goal.returns-clause-import
returns-clause-import c = valid_by _ refl

pub returns-clause-own : goal.returns-clause-own
returns-clause-own c = valid_by _ refl

pub returns-clause-no_function : goal.returns-clause-no_function
returns-clause-no_function c = invalid_by _ refl

pub returns-clause-itself : goal.returns-clause-itself
returns-clause-itself c = valid_by _ refl

pub returns-clause-no_argument : goal.returns-clause-no_argument
returns-clause-no_argument c = invalid_by _ refl

pub returns-clause-argument_of_other_type : goal.returns-clause-argument_of_other_type
returns-clause-argument_of_other_type c = invalid_by _ refl

pub returns-clause-arguments_in_other_order : goal.returns-clause-arguments_in_other_order
returns-clause-arguments_in_other_order c = invalid_by _ refl

pub returns-clause-one_argument : goal.returns-clause-one_argument
returns-clause-one_argument c = invalid_by _ refl

pub returns-clause-to_other_type : goal.returns-clause-to_other_type
returns-clause-to_other_type c = invalid_by _ refl

pub returns-clause-result_left_over : goal.returns-clause-result_left_over
returns-clause-result_left_over c = invalid_by _ refl

pub returns-clause-argument_is_taken : goal.returns-clause-argument_is_taken
returns-clause-argument_is_taken c = invalid_by _ refl

pub returns-clause-indirect : goal.returns-clause-indirect
returns-clause-indirect c = valid_by _ refl

pub returns-clause-no_type : goal.returns-clause-no_type
returns-clause-no_type c = invalid_by _ refl

pub returns-clause-indirect_without_index : goal.returns-clause-indirect_without_index
returns-clause-indirect_without_index c = invalid_by _ refl

pub returns-clause-index_of_other_type : goal.returns-clause-index_of_other_type
returns-clause-index_of_other_type c = invalid_by _ refl

pub returns-clause-indirect_in_other_order : goal.returns-clause-indirect_in_other_order
returns-clause-indirect_in_other_order c = invalid_by _ refl

pub returns-clause-indirect_to_other_type : goal.returns-clause-indirect_to_other_type
returns-clause-indirect_to_other_type c = invalid_by _ refl

pub returns-clause-without_table : goal.returns-clause-without_table
returns-clause-without_table c = invalid_by _ refl
