use Rattle.std.proofs.Common.{refl}
use Rattle.validator.proofs.Decided.{valid_by, invalid_by}
use Rattle.validator.proofs.laws.sign_extensions_are_typed.Goals as goal

pub returns-clause-extend8 : goal.returns-clause-extend8
returns-clause-extend8 c = valid_by _ refl

pub returns-clause-extend8_of_other : goal.returns-clause-extend8_of_other
returns-clause-extend8_of_other c = invalid_by _ refl

pub returns-clause-extend8_to_other : goal.returns-clause-extend8_to_other
returns-clause-extend8_to_other c = invalid_by _ refl

pub returns-clause-extend16 : goal.returns-clause-extend16
returns-clause-extend16 c = valid_by _ refl

pub returns-clause-extend16_of_other : goal.returns-clause-extend16_of_other
returns-clause-extend16_of_other c = invalid_by _ refl

pub returns-clause-extend16_to_other : goal.returns-clause-extend16_to_other
returns-clause-extend16_to_other c = invalid_by _ refl

pub returns-clause-extend8_64 : goal.returns-clause-extend8_64
returns-clause-extend8_64 c = valid_by _ refl

pub returns-clause-extend8_64_of_other : goal.returns-clause-extend8_64_of_other
returns-clause-extend8_64_of_other c = invalid_by _ refl

pub returns-clause-extend8_64_to_other : goal.returns-clause-extend8_64_to_other
returns-clause-extend8_64_to_other c = invalid_by _ refl

pub returns-clause-extend16_64 : goal.returns-clause-extend16_64
returns-clause-extend16_64 c = valid_by _ refl

pub returns-clause-extend16_64_of_other : goal.returns-clause-extend16_64_of_other
returns-clause-extend16_64_of_other c = invalid_by _ refl

pub returns-clause-extend16_64_to_other : goal.returns-clause-extend16_64_to_other
returns-clause-extend16_64_to_other c = invalid_by _ refl

pub returns-clause-extend32_64 : goal.returns-clause-extend32_64
returns-clause-extend32_64 c = valid_by _ refl

pub returns-clause-extend32_64_of_other : goal.returns-clause-extend32_64_of_other
returns-clause-extend32_64_of_other c = invalid_by _ refl

pub returns-clause-extend32_64_to_other : goal.returns-clause-extend32_64_to_other
returns-clause-extend32_64_to_other c = invalid_by _ refl
