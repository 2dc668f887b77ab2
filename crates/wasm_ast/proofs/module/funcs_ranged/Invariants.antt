use Rattle.std.proofs.Common.{All, take}
use Rattle.wasm_ast.specs.Ranged.{RangedFunc}
use Rattle.wasm_ast.proofs.module.funcs_ranged.Given as goal

abbrev pub invariant-loop-func : goal.invariant-loop-func
invariant-loop-func l = All RangedFunc (take l.func-index l.funcs)
