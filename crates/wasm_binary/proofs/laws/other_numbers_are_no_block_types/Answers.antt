use Rattle.wasm_binary.proofs.BlockTypes.{negative, long_negative, too_large, too_long}
use Rattle.wasm_binary.proofs.laws.other_numbers_are_no_block_types.Goals as goal

pub returns-clause-negative : goal.returns-clause-negative
returns-clause-negative c = negative

pub returns-clause-long_negative : goal.returns-clause-long_negative
returns-clause-long_negative c = long_negative

pub returns-clause-too_large : goal.returns-clause-too_large
returns-clause-too_large c = too_large

pub returns-clause-too_long : goal.returns-clause-too_long
returns-clause-too_long c = too_long
