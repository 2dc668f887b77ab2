use Rattle.std.proofs.Common.{refl}
use Rattle.validator.proofs.Decided.{valid_by, invalid_by}
use Rattle.validator.proofs.laws.branches_are_typed.Goals as goal

pub returns-clause-out_of_the_body : goal.returns-clause-out_of_the_body
returns-clause-out_of_the_body c = valid_by _ refl

pub returns-clause-br_drops : goal.returns-clause-br_drops
returns-clause-br_drops c = valid_by _ refl

pub returns-clause-stack_is_free_after_br : goal.returns-clause-stack_is_free_after_br
returns-clause-stack_is_free_after_br c = valid_by _ refl

pub returns-clause-no_label : goal.returns-clause-no_label
returns-clause-no_label c = invalid_by _ refl

pub returns-clause-br_with_nothing : goal.returns-clause-br_with_nothing
returns-clause-br_with_nothing c = invalid_by _ refl

pub returns-clause-br_with_other_type : goal.returns-clause-br_with_other_type
returns-clause-br_with_other_type c = invalid_by _ refl

pub returns-clause-out_of_two : goal.returns-clause-out_of_two
returns-clause-out_of_two c = valid_by _ refl

pub returns-clause-out_of_the_inner : goal.returns-clause-out_of_the_inner
returns-clause-out_of_the_inner c = invalid_by _ refl

pub returns-clause-br_if : goal.returns-clause-br_if
returns-clause-br_if c = valid_by _ refl

pub returns-clause-br_if_without_condition : goal.returns-clause-br_if_without_condition
returns-clause-br_if_without_condition c = invalid_by _ refl

pub returns-clause-br_if_on_i64 : goal.returns-clause-br_if_on_i64
returns-clause-br_if_on_i64 c = invalid_by _ refl

pub returns-clause-br_if_without_operand : goal.returns-clause-br_if_without_operand
returns-clause-br_if_without_operand c = invalid_by _ refl

pub returns-clause-br_if_no_label : goal.returns-clause-br_if_no_label
returns-clause-br_if_no_label c = invalid_by _ refl

pub returns-clause-br_if_with_other_type : goal.returns-clause-br_if_with_other_type
returns-clause-br_if_with_other_type c = invalid_by _ refl

pub returns-clause-stack_is_known_after_br_if : goal.returns-clause-stack_is_known_after_br_if
returns-clause-stack_is_known_after_br_if c = invalid_by _ refl

pub returns-clause-br_if_keeps_what_is_below : goal.returns-clause-br_if_keeps_what_is_below
returns-clause-br_if_keeps_what_is_below c = valid_by _ refl

pub returns-clause-known_after_br_if : goal.returns-clause-known_after_br_if
returns-clause-known_after_br_if c = valid_by _ refl

pub returns-clause-known_type_after_br_if : goal.returns-clause-known_type_after_br_if
returns-clause-known_type_after_br_if c _ = invalid_by _ refl
