use Rattle.std.proofs.Common.{All, subst, None}
use Rattle.std.proofs.lemmas.List.{take_all}
use Rattle.std.proofs.lemmas.List.Elements.{All-more}
use Rattle.wasm_ast.specs.Ranged.{RangedLimits}
use Rattle.wasm_ast.proofs.module.limits_ranged.Goals as goal

pub loop-limit-preserved : goal.loop-limit-preserved
loop-limit-preserved c =
    All-more RangedLimits c.args.limits.now c.loop-limit.limit-index (record { min = 0; max = None })
    c.loop-limit-test.true c.loop-limit.invariant
    c.ranged.ensures

pub returns : goal.returns
returns c =
    subst (All RangedLimits) (take_all c.loop-limit.limit-index c.args.limits.now c.loop-limit-test.false)
    c.loop-limit.invariant
