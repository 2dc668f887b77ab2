use Rattle.std.proofs.Common.{refl}
use Rattle.validator.proofs.Decided.{valid_by, invalid_by}
use Rattle.validator.proofs.laws.globals_are_typed.Goals as goal

pub returns-clause-get_constant : goal.returns-clause-get_constant
returns-clause-get_constant c = valid_by _ refl

pub returns-clause-get_variable : goal.returns-clause-get_variable
returns-clause-get_variable c = valid_by _ refl

pub returns-clause-no_global : goal.returns-clause-no_global
returns-clause-no_global c = invalid_by _ refl

pub returns-clause-get_other_type : goal.returns-clause-get_other_type
returns-clause-get_other_type c = invalid_by _ refl

pub returns-clause-get_without_result : goal.returns-clause-get_without_result
returns-clause-get_without_result c = invalid_by _ refl

pub returns-clause-set_variable : goal.returns-clause-set_variable
returns-clause-set_variable c = valid_by _ refl

pub returns-clause-set_constant : goal.returns-clause-set_constant
returns-clause-set_constant c = invalid_by _ refl

pub returns-clause-set_other_type : goal.returns-clause-set_other_type
returns-clause-set_other_type c = invalid_by _ refl

pub returns-clause-set_of_nothing : goal.returns-clause-set_of_nothing
returns-clause-set_of_nothing c = invalid_by _ refl

pub returns-clause-set_with_result : goal.returns-clause-set_with_result
returns-clause-set_with_result c = invalid_by _ refl

pub returns-clause-set_no_global : goal.returns-clause-set_no_global
returns-clause-set_no_global c = invalid_by _ refl
