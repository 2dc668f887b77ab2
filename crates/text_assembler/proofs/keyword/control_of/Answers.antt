use Rattle.std.proofs.Common.{List, ap, ◌∙◌}
use Rattle.text_assembler.specs.declared.keyword.Keyword.{Keyword}
use Rattle.text_assembler.specs.Words.{find_word}
use Rattle.text_assembler.proofs.keyword.control_of.Goals as goal

pub returns : goal.returns
returns c = c.find_word.ensures ∙ ap (λ (ks : List Keyword). find_word ks c.args.word.now) c.as_slice.ensures
