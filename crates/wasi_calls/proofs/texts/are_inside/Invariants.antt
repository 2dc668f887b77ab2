use Rattle.std.proofs.Common.{◌≡◌, ◌+◌, ◌<◌, ◌^◌, length, drop}
use Rattle.wasi_calls.specs.SystemCalls.{text_bytes}
use Rattle.wasi_calls.proofs.texts.are_inside.Given as goal

abbrev pub invariant-loop-text : goal.invariant-loop-text
invariant-loop-text l =
    (l.at < 2 ^ 33) × (l.at + length (text_bytes (drop l.text-index l.texts)) ≡ l.from + length (text_bytes l.texts))
