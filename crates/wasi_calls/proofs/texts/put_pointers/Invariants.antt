use Rattle.std.proofs.Common.{◌≡◌, ◌+◌, ◌*◌, ◌≤◌, length, drop}
use Rattle.std.specs.List.{flat_map}
use Rattle.linear_memory.specs.Memory.{with_range}
use Rattle.wasi_calls.specs.SystemCalls.{text_bytes, pointers, word}
use Rattle.wasi_calls.proofs.texts.put_pointers.Given as goal

abbrev pub invariant-loop-text : goal.invariant-loop-text
invariant-loop-text l =
    (length l.memory.bytes
    ≡ length l.fn.memory.bytes) × (l.at + length (drop l.text-index l.texts) * 4 ≤ length l.memory.bytes)
    × (l.pointer + length (text_bytes (drop l.text-index l.texts)) ≤ length l.memory.bytes)
    × (with_range l.memory l.at (flat_map word (pointers l.pointer (drop l.text-index l.texts)))
    ≡ with_range l.fn.memory l.address (flat_map word (pointers l.first l.texts)))
