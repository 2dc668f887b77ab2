use Rattle.std.proofs.Common.{◌≡◌, ◌++◌, length, take}
use Rattle.std.specs.List.{flat_map}
use Rattle.wasm_binary.specs.Canonical.{canon_number, canon_table}
use Rattle.wasm_binary.proofs.write_sections.put_tables.Given as goal

abbrev pub invariant-loop-table : goal.invariant-loop-table
invariant-loop-table l =
    l.out.items
    ≡ l.fn.out.items ++ (canon_number (length l.tables) ++ flat_map canon_table (take l.table-index l.tables))
