use Rattle.std.proofs.Common.{◌≡◌, ◌-◌, true}
use Rattle.wasm_binary.specs.Inside.Reading.{read_size, read_items}
use Rattle.wasm_binary.proofs.ItemLoop.{with_front}
use Rattle.wasm_binary.proofs.sections.read_sizes.Given as goal

abbrev pub invariant-loop : goal.invariant-loop
invariant-loop l =
    with_front l.items.items (read_items (read_size l.is_table true) (l.count - l.counter) l.rest)
    ≡ read_items (read_size l.is_table true) l.count l.bytes
