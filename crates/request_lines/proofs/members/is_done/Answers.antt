use Rattle.std.proofs.Common.{length, ap}
use Rattle.request_lines.proofs.MemberLemmas.{not_empty}
use Rattle.request_lines.proofs.members.is_done.Goals as goal

pub returns-clause-left : goal.returns-clause-left
returns-clause-left c h = not_empty c.args.members.now.entries (λ e. let t = c.is_empty.ensures.1 (ap length e) in cc)
