use Rattle.std.proofs.Common.{All, subst}
use Rattle.std.proofs.lemmas.List.{take_all}
use Rattle.std.proofs.lemmas.List.Elements.{All-more}
use Rattle.wasm_ast.specs.Ranged.{RangedFunc}
use Rattle.wasm_ast.proofs.module.funcs_ranged.Goals as goal

pub loop-func-preserved : goal.loop-func-preserved
loop-func-preserved c =
    All-more RangedFunc c.args.funcs.now c.loop-func.func-index c.func-item.result c.loop-func-test.true
    c.loop-func.invariant
    (subst RangedFunc c.func-item.is c.ranged.ensures)

pub returns : goal.returns
returns c =
    subst (All RangedFunc) (take_all c.loop-func.func-index c.args.funcs.now c.loop-func-test.false)
    c.loop-func.invariant
