use Rattle.std.proofs.Common.{All, take}
use Rattle.wasm_ast.specs.Ranged.{RangedGlobal}
use Rattle.wasm_ast.proofs.module.globals_ranged.Given as goal

abbrev pub invariant-loop-global : goal.invariant-loop-global
invariant-loop-global l = All RangedGlobal (take l.global-index l.globals)
