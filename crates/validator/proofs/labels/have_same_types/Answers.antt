use Rattle.std.proofs.Common.{ap}
use Rattle.std.specs.Prelude.{slice_get}
use Rattle.validator.specs.Inside.Labels.{taken_by}
use Rattle.validator.proofs.LabelLemmas.{told_same}
use Rattle.validator.proofs.labels.have_same_types.Goals as goal

pub returns-then-index-other : goal.returns-then-index-other
returns-then-index-other c =
    told_same c.args.labels.now c.args.index c.args.other
    (ap (slice_get (taken_by c.args.labels.now)) c.if-index-other.true)
