use Rattle.call_journal.proofs.SettleLemmas.{due_by_a_call}
use Rattle.call_journal.proofs.laws.few_calls_make_waits_due.Goals as goal

pub returns : goal.returns
returns c = due_by_a_call
