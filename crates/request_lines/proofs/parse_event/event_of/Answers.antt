use Rattle.std.proofs.Common.{rules}
use Rattle.request_lines.proofs.parse_event.event_of.Goals as goal

pub returns-in_err-read_event_line-clause-bad : goal.returns-in_err-read_event_line-clause-bad
returns-in_err-read_event_line-clause-bad c e = c.read_event_line.ensures.none (search rules)
