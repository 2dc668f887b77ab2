use Rattle.std.proofs.Common.{All, subst}
use Rattle.std.proofs.lemmas.List.{take_all}
use Rattle.std.proofs.lemmas.List.Elements.{All-more}
use Rattle.wasm_ast.specs.Ranged.{RangedElement}
use Rattle.wasm_ast.proofs.module.elements_ranged.Goals as goal

pub loop-element-preserved : goal.loop-element-preserved
loop-element-preserved c =
    All-more RangedElement c.args.elements.now c.loop-element.element-index c.element-item.result
    c.loop-element-test.true c.loop-element.invariant
    (subst RangedElement c.element-item.is c.ranged.ensures)

pub returns : goal.returns
returns c =
    subst (All RangedElement) (take_all c.loop-element.element-index c.args.elements.now c.loop-element-test.false)
    c.loop-element.invariant
