use Rattle.call_journal.specs.Replay.{is_taken}
use Rattle.call_journal.proofs.ComingLemmas.{comes_back, comes_again}
use Rattle.call_journal.proofs.laws.slices_come_together.Goals as goal

pub returns-clause-take : goal.returns-clause-take
returns-clause-take c t budget can ok = is_taken budget can ok

pub returns-clause-give_back : goal.returns-clause-give_back
returns-clause-give_back c = comes_back

pub returns-clause-again : goal.returns-clause-again
returns-clause-again c = comes_again
