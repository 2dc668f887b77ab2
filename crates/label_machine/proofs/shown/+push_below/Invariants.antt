use Rattle.std.proofs.Common.{length}
use Rattle.label_machine.proofs.shown.+push_below.Given as goal

abbrev pub decreases-push_below : goal.decreases-push_below
decreases-push_below l = length l.labels.now
