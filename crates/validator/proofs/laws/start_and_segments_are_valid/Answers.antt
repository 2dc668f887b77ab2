use Rattle.std.proofs.Common.{refl}
use Rattle.validator.proofs.Decided.{valid_by, invalid_by}
use Rattle.validator.proofs.laws.start_and_segments_are_valid.Goals as goal

pub returns-clause-start : goal.returns-clause-start
returns-clause-start c = valid_by _ refl

pub returns-clause-start_that_takes : goal.returns-clause-start_that_takes
returns-clause-start_that_takes c = invalid_by _ refl

pub returns-clause-start_that_gives : goal.returns-clause-start_that_gives
returns-clause-start_that_gives c = invalid_by _ refl

pub returns-clause-no_start_function : goal.returns-clause-no_start_function
returns-clause-no_start_function c = invalid_by _ refl

pub returns-clause-element : goal.returns-clause-element
returns-clause-element c = valid_by _ refl

pub returns-clause-no_table_of_element : goal.returns-clause-no_table_of_element
returns-clause-no_table_of_element c = invalid_by _ refl

pub returns-clause-element_without_table : goal.returns-clause-element_without_table
returns-clause-element_without_table c = invalid_by _ refl

pub returns-clause-element_at_i64 : goal.returns-clause-element_at_i64
returns-clause-element_at_i64 c = invalid_by _ refl

pub returns-clause-element_at_no_constant : goal.returns-clause-element_at_no_constant
returns-clause-element_at_no_constant c = invalid_by _ refl

pub returns-clause-no_function_of_element : goal.returns-clause-no_function_of_element
returns-clause-no_function_of_element c = invalid_by _ refl

pub returns-clause-second_element : goal.returns-clause-second_element
returns-clause-second_element c = invalid_by _ refl

pub returns-clause-segment : goal.returns-clause-segment
returns-clause-segment c = valid_by _ refl

pub returns-clause-no_memory_of_segment : goal.returns-clause-no_memory_of_segment
returns-clause-no_memory_of_segment c = invalid_by _ refl

pub returns-clause-segment_without_memory : goal.returns-clause-segment_without_memory
returns-clause-segment_without_memory c = invalid_by _ refl

pub returns-clause-segment_at_i64 : goal.returns-clause-segment_at_i64
returns-clause-segment_at_i64 c = invalid_by _ refl

pub returns-clause-segment_at_no_constant : goal.returns-clause-segment_at_no_constant
returns-clause-segment_at_no_constant c = invalid_by _ refl

pub returns-clause-second_segment : goal.returns-clause-second_segment
returns-clause-second_segment c = invalid_by _ refl
