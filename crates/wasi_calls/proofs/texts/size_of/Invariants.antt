use Rattle.std.proofs.Common.{◌≡◌, ◌+◌, ◌%◌, ◌^◌, length, drop}
use Rattle.wasi_calls.specs.SystemCalls.{text_bytes}
use Rattle.wasi_calls.proofs.texts.size_of.Given as goal

abbrev pub invariant-loop-text : goal.invariant-loop-text
invariant-loop-text l =
    (l.sum + length (text_bytes (drop l.text-index l.texts))) % 2 ^ 64 ≡ length (text_bytes l.texts) % 2 ^ 64
