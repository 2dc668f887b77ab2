use Rattle.file_commands.specs.Ran.{refused, refused_run}
use Rattle.file_commands.proofs.ExplainedLemmas.{answers_as}
use Rattle.file_commands.proofs.laws.reasons_change_nothing.Goals as goal

pub returns-clause-asm : goal.returns-clause-asm
returns-clause-asm c = λ bytes r h. answers_as refused r h

pub returns-clause-check : goal.returns-clause-check
returns-clause-check c = λ bytes list r h. answers_as refused r h

pub returns-clause-task : goal.returns-clause-task
returns-clause-task c = λ bytes g list r h. answers_as refused r h

pub returns-clause-run : goal.returns-clause-run
returns-clause-run c = λ bytes g r h. answers_as refused_run r h
