use Rattle.std.proofs.Common.{All, drop}
use Rattle.wasm_ast.specs.Ranged.{RangedImport}
use Rattle.wasm_ast.proofs.module.imports_ranged.Given as goal

-- all are in range if the rest of them are
abbrev pub invariant-loop-import : goal.invariant-loop-import
invariant-loop-import l = All RangedImport (drop l.import-index l.imports) → All RangedImport l.imports
