use Rattle.text_assembler.proofs.LineReads.{line_read}
use Rattle.text_assembler.proofs.laws.lines_denote.Goals as goal

pub returns : goal.returns
returns c = line_read
