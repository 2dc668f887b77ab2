use Rattle.std.proofs.Common.{sym}
use Rattle.callers.proofs.laws.all_lines_are_answered_at_the_end.Goals as goal

pub returns : goal.returns
returns c was now input before after left d = (sym d.read, d.written)
