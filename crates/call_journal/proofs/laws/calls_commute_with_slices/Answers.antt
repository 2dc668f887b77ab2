use Rattle.call_journal.proofs.CallLemmas.{calls_commute, calls_commute_on}
use Rattle.call_journal.proofs.laws.calls_commute_with_slices.Goals as goal

pub returns-clause-before : goal.returns-clause-before
returns-clause-before c = calls_commute

pub returns-clause-after : goal.returns-clause-after
returns-clause-after c = calls_commute_on
