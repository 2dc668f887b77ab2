use Rattle.text_assembler.proofs.Denoted.{too_deep_denotes_none_within}
use Rattle.text_assembler.proofs.laws.too_deep_denotes_none_within.Goals as goal

pub returns : goal.returns
returns c = too_deep_denotes_none_within
