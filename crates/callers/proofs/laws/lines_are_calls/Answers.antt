use Rattle.callers.proofs.LawLemmas.{is_call}
use Rattle.callers.proofs.laws.lines_are_calls.Goals as goal

pub returns-clause-journalled : goal.returns-clause-journalled
returns-clause-journalled c was line a now r h is =
    (is_call c.one_event_to_a_line.ensures c.requests_are_events.ensures was line a now r h is).0

pub returns-clause-same : goal.returns-clause-same
returns-clause-same c was line a now r h is =
    (is_call c.one_event_to_a_line.ensures c.requests_are_events.ensures was line a now r h is).1
