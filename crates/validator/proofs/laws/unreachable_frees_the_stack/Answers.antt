use Rattle.std.proofs.Common.{refl}
use Rattle.validator.proofs.Decided.{valid_by, invalid_by}
use Rattle.validator.proofs.laws.unreachable_frees_the_stack.Goals as goal

pub returns-clause-nop : goal.returns-clause-nop
returns-clause-nop c = valid_by _ refl

pub returns-clause-nop_keeps : goal.returns-clause-nop_keeps
returns-clause-nop_keeps c = valid_by _ refl

pub returns-clause-nop_gives_nothing : goal.returns-clause-nop_gives_nothing
returns-clause-nop_gives_nothing c = invalid_by _ refl

pub returns-clause-nop_changes_nothing : goal.returns-clause-nop_changes_nothing
returns-clause-nop_changes_nothing c = invalid_by _ refl

pub returns-clause-unreachable_i32 : goal.returns-clause-unreachable_i32
returns-clause-unreachable_i32 c = valid_by _ refl

pub returns-clause-unreachable_i64 : goal.returns-clause-unreachable_i64
returns-clause-unreachable_i64 c = valid_by _ refl

pub returns-clause-unreachable_drops : goal.returns-clause-unreachable_drops
returns-clause-unreachable_drops c = valid_by _ refl

pub returns-clause-unknown_operands : goal.returns-clause-unknown_operands
returns-clause-unknown_operands c _ = valid_by _ refl

pub returns-clause-known_after_it : goal.returns-clause-known_after_it
returns-clause-known_after_it c _ = invalid_by _ refl

pub returns-clause-left_over_after_it : goal.returns-clause-left_over_after_it
returns-clause-left_over_after_it c = invalid_by _ refl

pub returns-clause-other_result_after_it : goal.returns-clause-other_result_after_it
returns-clause-other_result_after_it c = invalid_by _ refl

pub returns-clause-inside_a_block_only : goal.returns-clause-inside_a_block_only
returns-clause-inside_a_block_only c = invalid_by _ refl

pub returns-clause-block_result_after_it : goal.returns-clause-block_result_after_it
returns-clause-block_result_after_it c = valid_by _ refl

pub returns-clause-block_result_is_known : goal.returns-clause-block_result_is_known
returns-clause-block_result_is_known c = invalid_by _ refl
