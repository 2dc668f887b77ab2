use Rattle.std.proofs.Common.{◌≡◌, length}
use Rattle.validator.specs.Inside.Packed.{IsRow}
use Rattle.validator.proofs.packed.row_of.Given as goal

abbrev pub invariant-loop-i : goal.invariant-loop-i
invariant-loop-i l = record {
  count : length l.row.items ≡ l.i;
  row : IsRow l.row.items l.types;
}
