use Rattle.callers.proofs.LawLemmas.{never_busy}
use Rattle.callers.proofs.laws.waits_are_never_busy.Goals as goal

pub returns : goal.returns
returns c = never_busy c.one_event_to_a_line.ensures c.requests_are_events.ensures
