use Rattle.std.proofs.Common.{All, take}
use Rattle.wasm_ast.specs.Ranged.{HasExportText}
use Rattle.wasm_ast.proofs.module.exports_are_texts.Given as goal

abbrev pub invariant-loop-export : goal.invariant-loop-export
invariant-loop-export l = All HasExportText (take l.export-index l.exports)
