use Rattle.file_commands.proofs.SourceLemmas.{text_refused}
use Rattle.file_commands.proofs.source.denoted.Goals as goal

pub returns-in-Err-clause-err : goal.returns-in-Err-clause-err
returns-in-Err-clause-err c =
    let told = c.in-Err.ensures in
    text_refused c.args.text.now c.in-Err.refusal told.causes told.bad told.limit told.over
