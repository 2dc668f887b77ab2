use Rattle.std.proofs.Common.{All, subst}
use Rattle.std.proofs.lemmas.List.{take_all}
use Rattle.std.proofs.lemmas.List.Elements.{All-more}
use Rattle.wasm_ast.specs.Ranged.{HasExportText}
use Rattle.wasm_ast.proofs.module.exports_are_texts.Goals as goal

pub loop-export-preserved : goal.loop-export-preserved
loop-export-preserved c =
    All-more HasExportText c.args.exports.now c.loop-export.export-index c.export-item.result c.loop-export-test.true
    c.loop-export.invariant
    (subst HasExportText c.export-item.is c.texts.ensures)

pub returns : goal.returns
returns c =
    subst (All HasExportText) (take_all c.loop-export.export-index c.args.exports.now c.loop-export-test.false)
    c.loop-export.invariant
