use Rattle.std.proofs.Common.{◌≡◌, take}
use Rattle.wasm_binary.specs.Canonical.{runs_of}
use Rattle.wasm_binary.proofs.write_code.runs_of.Given as goal

abbrev pub invariant-loop-t : goal.invariant-loop-t
invariant-loop-t l = l.runs.items ≡ runs_of (take l.t-index l.locals)
