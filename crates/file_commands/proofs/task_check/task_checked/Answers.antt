use Rattle.std.proofs.Common.{[]}
use Rattle.file_commands.specs.Ran.{refused}
use Rattle.file_commands.specs.Checked.{IsTaskChecked}
use Rattle.file_commands.specs.TaskRun.{given}
use Rattle.file_commands.proofs.RanLemmas.{told_plain}
use Rattle.file_commands.proofs.RunLemmas.{task_checked, task_told}
use Rattle.file_commands.proofs.task_check.task_checked.Goals as goal

pub returns-in-Ok-clause-ran : goal.returns-in-Ok-clause-ran
returns-in-Ok-clause-ran c =
    let told = c.in-Ok.ensures.ok in
    told_plain
    (IsTaskChecked c.args.bytes.now (given c.args.name.now [] c.args.settings.now) c.args.list) c.args.explain refused
    c.succeeded.result
    (task_checked c.args.bytes.now (given c.args.name.now [] c.args.settings.now) c.args.list told.0 _
    c.succeeded.result told.1 told.2 c.succeeded.ensures)

pub returns-in-Err-clause-ran : goal.returns-in-Err-clause-ran
returns-in-Err-clause-ran c =
    task_told c.args.bytes.now (given c.args.name.now [] c.args.settings.now) c.args.list c.in-Err.refusal
    c.args.explain c.refused_why.result c.refused_why.ensures.ran c.refused_why.ensures.told c.in-Err.ensures.err
