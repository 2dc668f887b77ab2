use Rattle.file_commands.proofs.FileLaws.{checked_alike}
use Rattle.file_commands.proofs.laws.checks_are_determined.Goals as goal

pub returns : goal.returns
returns c = checked_alike c.one_module_to_a_file.ensures.one c.one_module_to_a_file.ensures.either
