use Rattle.std.proofs.Common.{refl}
use Rattle.validator.proofs.Decided.{valid_by, invalid_by}
use Rattle.validator.proofs.laws.blocks_by_index_are_typed.Goals as goal

pub returns-clause-block : goal.returns-clause-block
returns-clause-block c = valid_by _ refl

pub returns-clause-block_without_parameters : goal.returns-clause-block_without_parameters
returns-clause-block_without_parameters c = invalid_by _ refl

pub returns-clause-parameter_left_over : goal.returns-clause-parameter_left_over
returns-clause-parameter_left_over c = invalid_by _ refl

pub returns-clause-parameters_out_of_order : goal.returns-clause-parameters_out_of_order
returns-clause-parameters_out_of_order c = invalid_by _ refl

pub returns-clause-parameter_not_there : goal.returns-clause-parameter_not_there
returns-clause-parameter_not_there c = invalid_by _ refl

pub returns-clause-below_the_parameters : goal.returns-clause-below_the_parameters
returns-clause-below_the_parameters c = invalid_by _ refl

pub returns-clause-no_type : goal.returns-clause-no_type
returns-clause-no_type c = invalid_by _ refl

pub returns-clause-branch_to_a_block : goal.returns-clause-branch_to_a_block
returns-clause-branch_to_a_block c = valid_by _ refl

pub returns-clause-branch_to_a_loop : goal.returns-clause-branch_to_a_loop
returns-clause-branch_to_a_loop c = valid_by _ refl

pub returns-clause-branch_to_a_loop_without_parameters : goal.returns-clause-branch_to_a_loop_without_parameters
returns-clause-branch_to_a_loop_without_parameters c = invalid_by _ refl

pub returns-clause-two_results : goal.returns-clause-two_results
returns-clause-two_results c = valid_by _ refl

pub returns-clause-branch_with_two : goal.returns-clause-branch_with_two
returns-clause-branch_with_two c = valid_by _ refl

pub returns-clause-branch_with_one_of_two : goal.returns-clause-branch_with_one_of_two
returns-clause-branch_with_one_of_two c = invalid_by _ refl

pub returns-clause-if_without_else : goal.returns-clause-if_without_else
returns-clause-if_without_else c = valid_by _ refl

pub returns-clause-if_without_else_of_other_results : goal.returns-clause-if_without_else_of_other_results
returns-clause-if_without_else_of_other_results c = invalid_by _ refl

pub returns-clause-if_with_else : goal.returns-clause-if_with_else
returns-clause-if_with_else c = valid_by _ refl

pub returns-clause-call : goal.returns-clause-call
returns-clause-call c = valid_by _ refl

pub returns-clause-tables_of_unequal_labels : goal.returns-clause-tables_of_unequal_labels
returns-clause-tables_of_unequal_labels c = invalid_by _ refl
