use Rattle.std.proofs.Common.{length, ap, sym}
use Rattle.call_journal.proofs.RowLemmas.{no_names}
use Rattle.call_journal.proofs.seen.Seen.none.Goals as goal

pub invariant_of-result : goal.invariant_of-result
invariant_of-result g c = (ap length (sym c.none.ensures), no_names _ _ c.none.ensures)
