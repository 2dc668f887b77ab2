use Rattle.std.proofs.Common.{◌≡◌, ◌≤◌, ◌+◌, drop}
use Rattle.std.specs.Prelude.{fold}
use Rattle.text_assembler.specs.Modules.{passed_byte, place_after}
use Rattle.text_assembler.proofs.place.line_and_column.Given as goal

abbrev pub invariant-loop-byte : goal.invariant-loop-byte
invariant-loop-byte l = record {
  line : l.line ≤ l.byte-index + 1;
  column : l.column ≤ l.byte-index + 1;
  leads : fold passed_byte (l.line, l.column) (drop l.byte-index l.passed) ≡ place_after l.passed;
}
