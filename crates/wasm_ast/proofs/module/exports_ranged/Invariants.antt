use Rattle.std.proofs.Common.{All, drop}
use Rattle.wasm_ast.specs.Ranged.{RangedExport}
use Rattle.wasm_ast.proofs.module.exports_ranged.Given as goal

-- all are in range if the rest of them are
abbrev pub invariant-loop-export : goal.invariant-loop-export
invariant-loop-export l = All RangedExport (drop l.export-index l.exports) → All RangedExport l.exports
