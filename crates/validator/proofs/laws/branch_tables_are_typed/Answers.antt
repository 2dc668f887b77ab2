use Rattle.std.proofs.Common.{refl}
use Rattle.validator.proofs.Decided.{valid_by, invalid_by}
use Rattle.validator.proofs.laws.branch_tables_are_typed.Goals as goal

pub returns-clause-table : goal.returns-clause-table
returns-clause-table c = valid_by _ refl

pub returns-clause-table_of_none : goal.returns-clause-table_of_none
returns-clause-table_of_none c = valid_by _ refl

pub returns-clause-two_labels : goal.returns-clause-two_labels
returns-clause-two_labels c = valid_by _ refl

pub returns-clause-labels_of_two_types : goal.returns-clause-labels_of_two_types
returns-clause-labels_of_two_types c = invalid_by _ refl

pub returns-clause-other_label_of_other_type : goal.returns-clause-other_label_of_other_type
returns-clause-other_label_of_other_type c = invalid_by _ refl

pub returns-clause-no_label_in_the_table : goal.returns-clause-no_label_in_the_table
returns-clause-no_label_in_the_table c = invalid_by _ refl

pub returns-clause-no_other_label : goal.returns-clause-no_other_label
returns-clause-no_other_label c = invalid_by _ refl

pub returns-clause-index_of_other_type : goal.returns-clause-index_of_other_type
returns-clause-index_of_other_type c = invalid_by _ refl

pub returns-clause-no_index : goal.returns-clause-no_index
returns-clause-no_index c = invalid_by _ refl

pub returns-clause-no_operand : goal.returns-clause-no_operand
returns-clause-no_operand c = invalid_by _ refl

pub returns-clause-operand_of_other_type : goal.returns-clause-operand_of_other_type
returns-clause-operand_of_other_type c = invalid_by _ refl

pub returns-clause-stack_is_free_after_it : goal.returns-clause-stack_is_free_after_it
returns-clause-stack_is_free_after_it c = valid_by _ refl

pub returns-clause-by_return : goal.returns-clause-by_return
returns-clause-by_return c = valid_by _ refl

pub returns-clause-return_from_a_block : goal.returns-clause-return_from_a_block
returns-clause-return_from_a_block c = valid_by _ refl

pub returns-clause-return_drops : goal.returns-clause-return_drops
returns-clause-return_drops c = valid_by _ refl

pub returns-clause-stack_is_free_after_return : goal.returns-clause-stack_is_free_after_return
returns-clause-stack_is_free_after_return c = valid_by _ refl

pub returns-clause-return_of_nothing : goal.returns-clause-return_of_nothing
returns-clause-return_of_nothing c = invalid_by _ refl

pub returns-clause-return_of_other_type : goal.returns-clause-return_of_other_type
returns-clause-return_of_other_type c = invalid_by _ refl
