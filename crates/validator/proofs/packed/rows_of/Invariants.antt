use Rattle.std.proofs.Common.{◌≡◌, length}
use Rattle.validator.specs.Inside.Packed.{AreRows}
use Rattle.validator.proofs.packed.rows_of.Given as goal

abbrev pub invariant-loop-first : goal.invariant-loop-first
invariant-loop-first l = record {
  count : length l.rows.items ≡ l.first;
  rows : AreRows l.rows.items l.types;
}
