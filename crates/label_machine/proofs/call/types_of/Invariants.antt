use Rattle.std.proofs.Common.{◌≡◌, map, take}
use Rattle.wasm_ast.specs.Types.{type_of}
use Rattle.label_machine.proofs.call.types_of.Given as goal

-- the types so far
abbrev pub invariant-loop-value : goal.invariant-loop-value
invariant-loop-value l = l.types.items ≡ map type_of (take l.value-index l.values)
