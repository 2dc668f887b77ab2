use Rattle.std.proofs.Common.{inr}
use Rattle.file_commands.specs.Source.{no_text}
use Rattle.file_commands.proofs.source.text_module.Goals as goal

pub returns-in-None-clause-err : goal.returns-in-None-clause-err
returns-in-None-clause-err c = inr (no_text c.requires c.in-None.ensures.none)
