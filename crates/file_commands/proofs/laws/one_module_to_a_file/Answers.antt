use Rattle.file_commands.proofs.FileLaws.{one_module, either}
use Rattle.file_commands.proofs.laws.one_module_to_a_file.Goals as goal

pub returns-clause-one : goal.returns-clause-one
returns-clause-one c = one_module c.spells_one.ensures c.denotes_one.ensures

pub returns-clause-either : goal.returns-clause-either
returns-clause-either c = either c.over_spells_none_within.ensures
