use Rattle.std.proofs.Common.{rules}
use Rattle.task_requests.specs.declared.event.Event.TheVariants.{Call}
use Rattle.request_lines.proofs.parse_request.read_request_line.Goals as goal

pub returns-in_err-request-clause-none : goal.returns-in_err-request-clause-none
returns-in_err-request-clause-none c e r is = c.read_event_line.ensures.none (search rules) (Call r) is
