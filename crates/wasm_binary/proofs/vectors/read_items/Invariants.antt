use Rattle.std.proofs.Common.{◌≡◌, ◌-◌}
use Rattle.wasm_binary.specs.Inside.Reading.{read_items}
use Rattle.wasm_binary.proofs.ItemLoop.{with_front}
use Rattle.wasm_binary.proofs.vectors.read_items.Given as goal

abbrev pub invariant-loop : goal.invariant-loop
invariant-loop g l =
    with_front l.items.items (read_items g.T.Decode.reading (l.count - l.counter) l.rest)
    ≡ read_items g.T.Decode.reading l.count l.bytes
