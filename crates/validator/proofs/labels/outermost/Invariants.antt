use Rattle.std.proofs.Common.{◌≡◌, ◌≤◌}
use Rattle.std.specs.Prelude.{slice_get}
use Rattle.validator.specs.Inside.Labels.{taken_by}
use Rattle.validator.proofs.labels.outermost.Given as goal

-- it takes the types of the label that is asked for
abbrev pub invariant-loop-outermost : goal.invariant-loop-outermost
invariant-loop-outermost l = record {
  within : l.outermost ≤ l.index;
  same : slice_get (taken_by l.labels) l.outermost ≡ slice_get (taken_by l.labels) l.index;
}

abbrev pub decreases-loop-outermost : goal.decreases-loop-outermost
decreases-loop-outermost l = l.outermost
