use Rattle.call_journal.proofs.NamedLemmas.{only_named}
use Rattle.call_journal.proofs.laws.calls_change_the_task_they_name.Goals as goal

pub returns : goal.returns
returns c = only_named
