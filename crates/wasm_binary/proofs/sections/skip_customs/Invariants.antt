use Rattle.std.proofs.Common.{◌≡◌, ◌-◌, length}
use Rattle.wasm_binary.specs.Inside.Reading.{skip_customs, skip_some_customs}
use Rattle.wasm_binary.proofs.sections.skip_customs.Given as goal

abbrev pub invariant-loop : goal.invariant-loop
invariant-loop l = skip_some_customs (length l.bytes - l.counter) l.rest ≡ skip_customs l.bytes
