use Rattle.file_commands.proofs.FileLaws.{assembled_alike}
use Rattle.file_commands.proofs.laws.encodings_are_determined.Goals as goal

pub returns : goal.returns
returns c = assembled_alike c.one_module_to_a_file.ensures.one c.one_module_to_a_file.ensures.either
