use Rattle.std.proofs.Common.{refl}
use Rattle.std.specs.Char.{encode_utf8}
use Rattle.text_assembler.specs.Tokens.{read_element, read_escape, read_code, more_code}
use Rattle.text_assembler.proofs.laws.escapes_are_read.Goals as goal

pub returns-clause-last_code : goal.returns-clause-last_code
unfolding read_element read_escape read_code more_code encode_utf8
returns-clause-last_code c = refl
