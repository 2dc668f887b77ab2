use Rattle.std.proofs.Common.{◌≡◌, ◌+◌, ◌≤◌, length, drop}
use Rattle.linear_memory.specs.Memory.{with_range}
use Rattle.wasi_calls.specs.SystemCalls.{text_bytes}
use Rattle.wasi_calls.proofs.texts.put_text_bytes.Given as goal

abbrev pub invariant-loop-text : goal.invariant-loop-text
invariant-loop-text l =
    (length l.memory.bytes
    ≡ length l.fn.memory.bytes) × (l.at + length (text_bytes (drop l.text-index l.texts)) ≤ length l.memory.bytes)
    × (with_range l.memory l.at (text_bytes (drop l.text-index l.texts))
    ≡ with_range l.fn.memory l.address (text_bytes l.texts))
