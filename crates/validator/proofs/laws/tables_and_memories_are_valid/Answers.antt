use Rattle.std.proofs.Common.{refl}
use Rattle.validator.proofs.Decided.{valid_by, invalid_by}
use Rattle.validator.proofs.laws.tables_and_memories_are_valid.Goals as goal

pub returns-clause-no_table : goal.returns-clause-no_table
returns-clause-no_table c = valid_by _ refl

pub returns-clause-two_tables : goal.returns-clause-two_tables
returns-clause-two_tables c = invalid_by _ refl

pub returns-clause-table_of_one_size : goal.returns-clause-table_of_one_size
returns-clause-table_of_one_size c = valid_by _ refl

pub returns-clause-table_out_of_order : goal.returns-clause-table_out_of_order
returns-clause-table_out_of_order c = invalid_by _ refl

pub returns-clause-largest_table : goal.returns-clause-largest_table
returns-clause-largest_table c = valid_by _ refl

pub returns-clause-table_out_of_range : goal.returns-clause-table_out_of_range
returns-clause-table_out_of_range c = invalid_by _ refl

pub returns-clause-most_out_of_range : goal.returns-clause-most_out_of_range
returns-clause-most_out_of_range c = invalid_by _ refl

pub returns-clause-no_memory : goal.returns-clause-no_memory
returns-clause-no_memory c = valid_by _ refl

pub returns-clause-two_memories : goal.returns-clause-two_memories
returns-clause-two_memories c = invalid_by _ refl

pub returns-clause-memory_of_one_size : goal.returns-clause-memory_of_one_size
returns-clause-memory_of_one_size c = valid_by _ refl

pub returns-clause-memory_out_of_order : goal.returns-clause-memory_out_of_order
returns-clause-memory_out_of_order c = invalid_by _ refl

pub returns-clause-largest_memory : goal.returns-clause-largest_memory
returns-clause-largest_memory c = valid_by _ refl

pub returns-clause-memory_out_of_range : goal.returns-clause-memory_out_of_range
returns-clause-memory_out_of_range c = invalid_by _ refl

pub returns-clause-most_pages_out_of_range : goal.returns-clause-most_pages_out_of_range
returns-clause-most_pages_out_of_range c = invalid_by _ refl
