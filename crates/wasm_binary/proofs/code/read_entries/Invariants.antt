use Rattle.std.proofs.Common.{◌≡◌, drop, true}
use Rattle.wasm_binary.specs.Inside.Reading.{read_entries}
use Rattle.wasm_binary.proofs.ItemLoop.{with_front}
use Rattle.wasm_binary.proofs.code.read_entries.Given as goal

abbrev pub invariant-loop-type_index : goal.invariant-loop-type_index
invariant-loop-type_index l =
    with_front l.items.items (read_entries true l.types (drop l.type_index-index l.indices) l.rest)
    ≡ read_entries true l.types l.indices l.bytes
