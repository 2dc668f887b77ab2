use Rattle.std.proofs.Common.{rules}
use Rattle.request_lines.proofs.parse_request.request_of.Goals as goal

pub returns-in_err-read_request_line-clause-bad : goal.returns-in_err-read_request_line-clause-bad
returns-in_err-read_request_line-clause-bad c e = c.read_request_line.ensures.none (search rules)
