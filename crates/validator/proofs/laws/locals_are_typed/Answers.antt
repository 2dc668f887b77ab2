use Rattle.std.proofs.Common.{refl}
use Rattle.validator.proofs.Decided.{valid_by, invalid_by}
use Rattle.validator.proofs.laws.locals_are_typed.Goals as goal

pub returns-clause-first_parameter : goal.returns-clause-first_parameter
returns-clause-first_parameter c = valid_by _ refl

pub returns-clause-second_parameter : goal.returns-clause-second_parameter
returns-clause-second_parameter c = valid_by _ refl

pub returns-clause-first_local : goal.returns-clause-first_local
returns-clause-first_local c = valid_by _ refl

pub returns-clause-second_local : goal.returns-clause-second_local
returns-clause-second_local c = valid_by _ refl

pub returns-clause-no_local : goal.returns-clause-no_local
returns-clause-no_local c = invalid_by _ refl

pub returns-clause-get_other_type : goal.returns-clause-get_other_type
returns-clause-get_other_type c = invalid_by _ refl

pub returns-clause-get_other_local_type : goal.returns-clause-get_other_local_type
returns-clause-get_other_local_type c = invalid_by _ refl

pub returns-clause-get_without_result : goal.returns-clause-get_without_result
returns-clause-get_without_result c = invalid_by _ refl

pub returns-clause-set : goal.returns-clause-set
returns-clause-set c = valid_by _ refl

pub returns-clause-set_other_type : goal.returns-clause-set_other_type
returns-clause-set_other_type c = invalid_by _ refl

pub returns-clause-set_of_nothing : goal.returns-clause-set_of_nothing
returns-clause-set_of_nothing c = invalid_by _ refl

pub returns-clause-set_with_result : goal.returns-clause-set_with_result
returns-clause-set_with_result c = invalid_by _ refl

pub returns-clause-set_no_local : goal.returns-clause-set_no_local
returns-clause-set_no_local c = invalid_by _ refl

pub returns-clause-tee : goal.returns-clause-tee
returns-clause-tee c = valid_by _ refl

pub returns-clause-tee_other_type : goal.returns-clause-tee_other_type
returns-clause-tee_other_type c = invalid_by _ refl

pub returns-clause-tee_of_nothing : goal.returns-clause-tee_of_nothing
returns-clause-tee_of_nothing c = invalid_by _ refl

pub returns-clause-tee_without_result : goal.returns-clause-tee_without_result
returns-clause-tee_without_result c = invalid_by _ refl

pub returns-clause-tee_no_local : goal.returns-clause-tee_no_local
returns-clause-tee_no_local c = invalid_by _ refl
