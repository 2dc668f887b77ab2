use Rattle.std.proofs.Common.{◌≡◌, take}
use Rattle.wasm_binary.specs.Grammar.{indices_of}
use Rattle.wasm_binary.proofs.write_sections.type_indices.Given as goal

abbrev pub invariant-loop-func : goal.invariant-loop-func
invariant-loop-func l = l.indices.items ≡ indices_of (take l.func-index l.funcs)
