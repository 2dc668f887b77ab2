use Rattle.std.proofs.Common.{length}
use Rattle.label_machine.proofs.shown.+next_place.Given as goal

abbrev pub decreases-next_place : goal.decreases-next_place
decreases-next_place l = length l.labels.now
