use Rattle.file_commands.proofs.DeterminedLemmas.{replied_once}
use Rattle.file_commands.proofs.laws.script_lines_are_determined.Goals as goal

pub returns : goal.returns
returns c = replied_once c.events_are_determined.ensures
