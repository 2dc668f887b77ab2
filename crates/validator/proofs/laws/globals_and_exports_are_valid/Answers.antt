use Rattle.std.proofs.Common.{refl}
use Rattle.validator.proofs.Decided.{valid_by, invalid_by}
use Rattle.validator.proofs.laws.globals_and_exports_are_valid.Goals as goal

pub returns-clause-global : goal.returns-clause-global
returns-clause-global c = valid_by _ refl

pub returns-clause-global_of_other_type : goal.returns-clause-global_of_other_type
returns-clause-global_of_other_type c = invalid_by _ refl

pub returns-clause-empty_expression : goal.returns-clause-empty_expression
returns-clause-empty_expression c = invalid_by _ refl

pub returns-clause-two_constants : goal.returns-clause-two_constants
returns-clause-two_constants c = invalid_by _ refl

pub returns-clause-no_constant : goal.returns-clause-no_constant
returns-clause-no_constant c = invalid_by _ refl

pub returns-clause-global_of_a_global : goal.returns-clause-global_of_a_global
returns-clause-global_of_a_global c = invalid_by _ refl

pub returns-clause-block_of_a_constant : goal.returns-clause-block_of_a_constant
returns-clause-block_of_a_constant c = invalid_by _ refl

pub returns-clause-second_global : goal.returns-clause-second_global
returns-clause-second_global c = invalid_by _ refl

pub returns-clause-last_function : goal.returns-clause-last_function
returns-clause-last_function c = valid_by _ refl

pub returns-clause-no_function : goal.returns-clause-no_function
returns-clause-no_function c = invalid_by _ refl

pub returns-clause-table : goal.returns-clause-table
returns-clause-table c = valid_by _ refl

pub returns-clause-no_table : goal.returns-clause-no_table
returns-clause-no_table c = invalid_by _ refl

pub returns-clause-memory : goal.returns-clause-memory
returns-clause-memory c = valid_by _ refl

pub returns-clause-no_memory : goal.returns-clause-no_memory
returns-clause-no_memory c = invalid_by _ refl

pub returns-clause-last_global : goal.returns-clause-last_global
returns-clause-last_global c = valid_by _ refl

pub returns-clause-no_global : goal.returns-clause-no_global
returns-clause-no_global c = invalid_by _ refl

pub returns-clause-two_names : goal.returns-clause-two_names
returns-clause-two_names c = valid_by _ refl

pub returns-clause-same_names : goal.returns-clause-same_names
returns-clause-same_names c = invalid_by _ refl

pub returns-clause-same_names_apart : goal.returns-clause-same_names_apart
returns-clause-same_names_apart c = invalid_by _ refl

pub returns-clause-same_names_later : goal.returns-clause-same_names_later
returns-clause-same_names_later c = invalid_by _ refl
