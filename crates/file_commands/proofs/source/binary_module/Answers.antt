use Rattle.file_commands.proofs.SourceLemmas.{binary_refused}
use Rattle.file_commands.proofs.source.binary_module.Goals as goal

pub returns-clause-err : goal.returns-clause-err
returns-clause-err c =
    binary_refused c.args.bytes.now c.decode.result c.requires c.decode.ensures.causes c.decode.ensures.bad
    c.decode.ensures.over
