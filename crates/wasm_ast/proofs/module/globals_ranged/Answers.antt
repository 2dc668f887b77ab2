use Rattle.std.proofs.Common.{All, subst}
use Rattle.std.proofs.lemmas.List.{take_all}
use Rattle.std.proofs.lemmas.List.Elements.{All-more}
use Rattle.wasm_ast.specs.Ranged.{RangedGlobal}
use Rattle.wasm_ast.proofs.module.globals_ranged.Goals as goal

pub loop-global-preserved : goal.loop-global-preserved
loop-global-preserved c =
    All-more RangedGlobal c.args.globals.now c.loop-global.global-index c.global-item.result c.loop-global-test.true
    c.loop-global.invariant
    (subst RangedGlobal c.global-item.is c.ranged.ensures)

pub returns : goal.returns
returns c =
    subst (All RangedGlobal) (take_all c.loop-global.global-index c.args.globals.now c.loop-global-test.false)
    c.loop-global.invariant
