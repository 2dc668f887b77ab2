use Rattle.std.proofs.Common.{All, subst}
use Rattle.wasm_ast.specs.Ranged.{HasImportTexts, HasExportText}
use Rattle.wasm_ast.proofs.module.Module.texts.Goals as goal

pub returns : goal.returns
returns c = record {
  imports = subst (All HasImportTexts) c.as_slice.ensures c.imports_are_texts.ensures;
  exports = subst (All HasExportText) c.as_slice-2.ensures c.exports_are_texts.ensures;
}
