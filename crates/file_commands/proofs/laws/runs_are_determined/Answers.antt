use Rattle.file_commands.proofs.FileLaws.{run_alike}
use Rattle.file_commands.proofs.laws.runs_are_determined.Goals as goal

pub returns : goal.returns
returns c =
    run_alike c.one_module_to_a_file.ensures.one c.one_module_to_a_file.ensures.either c.halted_stays.ensures
    c.cuts_commute.ensures
