use Rattle.file_commands.proofs.FileLaws.{task_checked_alike}
use Rattle.file_commands.proofs.laws.task_checks_are_determined.Goals as goal

pub returns : goal.returns
returns c = task_checked_alike c.one_module_to_a_file.ensures.one c.one_module_to_a_file.ensures.either
