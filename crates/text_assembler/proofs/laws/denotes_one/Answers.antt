use Rattle.text_assembler.proofs.Denoted.{denotes_one}
use Rattle.text_assembler.proofs.laws.denotes_one.Goals as goal

pub returns : goal.returns
returns c = denotes_one
