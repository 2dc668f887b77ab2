use Rattle.std.proofs.Common.{All, take}
use Rattle.wasm_ast.specs.Ranged.{HasImportTexts}
use Rattle.wasm_ast.proofs.module.imports_are_texts.Given as goal

abbrev pub invariant-loop-import : goal.invariant-loop-import
invariant-loop-import l = All HasImportTexts (take l.import-index l.imports)
