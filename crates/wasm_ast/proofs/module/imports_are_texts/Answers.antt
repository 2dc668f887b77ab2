use Rattle.std.proofs.Common.{All, subst}
use Rattle.std.proofs.lemmas.List.{take_all}
use Rattle.std.proofs.lemmas.List.Elements.{All-more}
use Rattle.wasm_ast.specs.Ranged.{HasImportTexts}
use Rattle.wasm_ast.proofs.module.imports_are_texts.Goals as goal

pub loop-import-preserved : goal.loop-import-preserved
loop-import-preserved c =
    All-more HasImportTexts c.args.imports.now c.loop-import.import-index c.import-item.result c.loop-import-test.true
    c.loop-import.invariant
    (subst HasImportTexts c.import-item.is c.texts.ensures)

pub returns : goal.returns
returns c =
    subst (All HasImportTexts) (take_all c.loop-import.import-index c.args.imports.now c.loop-import-test.false)
    c.loop-import.invariant
