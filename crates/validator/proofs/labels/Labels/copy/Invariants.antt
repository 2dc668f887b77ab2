use Rattle.std.proofs.Common.{◌≡◌, ◌≤◌, length, take}
use Rattle.std.specs.Prelude.{vec_capacity}
use Rattle.validator.proofs.labels.Labels.copy.Given as goal

abbrev pub invariant-loop-label : goal.invariant-loop-label
invariant-loop-label l = record {
  room : length l.label-items ≤ vec_capacity l.labels;
  same : l.labels.items ≡ take l.label-index l.label-items;
}
