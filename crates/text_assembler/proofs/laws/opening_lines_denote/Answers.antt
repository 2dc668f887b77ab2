use Rattle.text_assembler.proofs.Openings.{block_opens, loop_opens, if_opens}
use Rattle.text_assembler.proofs.laws.opening_lines_denote.Goals as goal

pub returns-clause-opening_block : goal.returns-clause-opening_block
returns-clause-opening_block c = block_opens

pub returns-clause-opening_loop : goal.returns-clause-opening_loop
returns-clause-opening_loop c = loop_opens

pub returns-clause-opening_if : goal.returns-clause-opening_if
returns-clause-opening_if c = if_opens
