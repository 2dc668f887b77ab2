use Rattle.request_lines.proofs.OneEvent.{one_event}
use Rattle.request_lines.proofs.laws.one_event_to_a_line.Goals as goal

pub returns : goal.returns
returns c = one_event
