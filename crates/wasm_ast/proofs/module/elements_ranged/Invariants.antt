use Rattle.std.proofs.Common.{All, take}
use Rattle.wasm_ast.specs.Ranged.{RangedElement}
use Rattle.wasm_ast.proofs.module.elements_ranged.Given as goal

abbrev pub invariant-loop-element : goal.invariant-loop-element
invariant-loop-element l = All RangedElement (take l.element-index l.elements)
