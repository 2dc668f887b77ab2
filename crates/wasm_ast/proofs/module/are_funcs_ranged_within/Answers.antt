use Rattle.std.proofs.Common.{◌&&◌, ◌+◌, ◌∙◌, All, ap, drop, subst}
use Rattle.std.proofs.lemmas.List.{take_all}
use Rattle.std.proofs.lemmas.List.Elements.{All-more}
use Rattle.wasm_ast.specs.Limits.{is_func_within, are_all}
use Rattle.wasm_ast.specs.Ranged.{RangedFunc}
use Rattle.wasm_ast.proofs.LimitLemmas.{one_more}
use Rattle.wasm_ast.proofs.module.are_funcs_ranged_within.Goals as goal

pub loop-func-preserved : goal.loop-func-preserved
loop-func-preserved c =
    let test = is_func_within c.args.types.now in
    let fs = c.args.funcs.now in
    let i = c.loop-func.func-index in
    let tested = c.is_func_ranged_within-within.ensures in (
      ap (λ b. (c.loop-func.within && b) && are_all test (drop (i + 1) fs)) tested.within
          ∙ one_more test c.loop-func.within fs i c.func-item.result c.loop-func-test.true c.func-item.is
          ∙ c.loop-func.invariant.0,
      All-more RangedFunc fs i c.func-item.result c.loop-func-test.true c.loop-func.invariant.1
          (subst RangedFunc c.func-item.is tested.ranged),
    )

pub returns-clause-ranged : goal.returns-clause-ranged
returns-clause-ranged c =
    subst (All RangedFunc) (take_all c.loop-func.func-index c.args.funcs.now c.loop-func-test.false)
    c.loop-func.invariant.1
