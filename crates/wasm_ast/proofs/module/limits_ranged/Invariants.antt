use Rattle.std.proofs.Common.{All, take}
use Rattle.wasm_ast.specs.Ranged.{RangedLimits}
use Rattle.wasm_ast.proofs.module.limits_ranged.Given as goal

abbrev pub invariant-loop-limit : goal.invariant-loop-limit
invariant-loop-limit l = All RangedLimits (take l.limit-index l.limits)
