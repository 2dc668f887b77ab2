use Rattle.std.proofs.Common.{refl}
use Rattle.validator.proofs.Decided.{valid_by, invalid_by}
use Rattle.validator.proofs.laws.blocks_are_typed.Goals as goal

pub returns-clause-block : goal.returns-clause-block
returns-clause-block c = valid_by _ refl

pub returns-clause-i64_block : goal.returns-clause-i64_block
returns-clause-i64_block c = valid_by _ refl

pub returns-clause-block_keeps : goal.returns-clause-block_keeps
returns-clause-block_keeps c = valid_by _ refl

pub returns-clause-block_without_result : goal.returns-clause-block_without_result
returns-clause-block_without_result c = invalid_by _ refl

pub returns-clause-block_with_other_result : goal.returns-clause-block_with_other_result
returns-clause-block_with_other_result c = invalid_by _ refl

pub returns-clause-block_with_more : goal.returns-clause-block_with_more
returns-clause-block_with_more c = invalid_by _ refl

pub returns-clause-block_result_left_over : goal.returns-clause-block_result_left_over
returns-clause-block_result_left_over c = invalid_by _ refl

pub returns-clause-operand_below_a_block : goal.returns-clause-operand_below_a_block
returns-clause-operand_below_a_block c = invalid_by _ refl

pub returns-clause-branch_out_of_a_block : goal.returns-clause-branch_out_of_a_block
returns-clause-branch_out_of_a_block c = valid_by _ refl

pub returns-clause-branch_with_nothing : goal.returns-clause-branch_with_nothing
returns-clause-branch_with_nothing c = invalid_by _ refl

pub returns-clause-loop_result : goal.returns-clause-loop_result
returns-clause-loop_result c = valid_by _ refl

pub returns-clause-branch_to_a_loop : goal.returns-clause-branch_to_a_loop
returns-clause-branch_to_a_loop c = valid_by _ refl

pub returns-clause-loop_without_result : goal.returns-clause-loop_without_result
returns-clause-loop_without_result c = invalid_by _ refl

pub returns-clause-loop_result_left_over : goal.returns-clause-loop_result_left_over
returns-clause-loop_result_left_over c = invalid_by _ refl

pub returns-clause-operand_below_a_loop : goal.returns-clause-operand_below_a_loop
returns-clause-operand_below_a_loop c = invalid_by _ refl

pub returns-clause-if_result : goal.returns-clause-if_result
returns-clause-if_result c = valid_by _ refl

pub returns-clause-no_condition : goal.returns-clause-no_condition
returns-clause-no_condition c = invalid_by _ refl

pub returns-clause-condition_of_other_type : goal.returns-clause-condition_of_other_type
returns-clause-condition_of_other_type c = invalid_by _ refl

pub returns-clause-then_arm_without_result : goal.returns-clause-then_arm_without_result
returns-clause-then_arm_without_result c = invalid_by _ refl

pub returns-clause-else_arm_without_result : goal.returns-clause-else_arm_without_result
returns-clause-else_arm_without_result c = invalid_by _ refl

pub returns-clause-then_arm_with_other_result : goal.returns-clause-then_arm_with_other_result
returns-clause-then_arm_with_other_result c = invalid_by _ refl

pub returns-clause-else_arm_with_other_result : goal.returns-clause-else_arm_with_other_result
returns-clause-else_arm_with_other_result c = invalid_by _ refl

pub returns-clause-branches_out_of_arms : goal.returns-clause-branches_out_of_arms
returns-clause-branches_out_of_arms c = valid_by _ refl

pub returns-clause-then_branch_with_nothing : goal.returns-clause-then_branch_with_nothing
returns-clause-then_branch_with_nothing c = invalid_by _ refl

pub returns-clause-else_branch_with_nothing : goal.returns-clause-else_branch_with_nothing
returns-clause-else_branch_with_nothing c = invalid_by _ refl

pub returns-clause-condition_is_taken : goal.returns-clause-condition_is_taken
returns-clause-condition_is_taken c = invalid_by _ refl

pub returns-clause-if_result_left_over : goal.returns-clause-if_result_left_over
returns-clause-if_result_left_over c = invalid_by _ refl
