use Rattle.callers.proofs.LawLemmas.{long_refused}
use Rattle.callers.proofs.laws.long_lines_are_no_requests.Goals as goal

pub returns : goal.returns
returns c = long_refused
