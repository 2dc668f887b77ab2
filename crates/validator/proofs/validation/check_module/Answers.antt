use Rattle.std.proofs.Common.{List, map, subst, ap, ◌∙◌}
use Rattle.std.proofs.lemmas.Result.{on_ok_weaker}
use Rattle.wasm_ast.specs.declared.module.Export.{Export}
use Rattle.wasm_ast.specs.declared.module.Module.{Module}
use Rattle.validator.specs.Typing.{AllDifferent}
use Rattle.validator.proofs.ModuleExact.{declared_valid}
use Rattle.validator.proofs.validation.check_module.Goals as goal

pub returns-clause-valid : goal.returns-clause-valid
returns-clause-valid c =
    let m = c.args.unchecked.now in
    let names : AllDifferent (map (λ (e : Export). e.name) m.exports) =
    subst (λ (exports : List Export). AllDifferent (map (λ (e : Export). e.name) exports))
    (c.as_slice.ensures ∙ ap (λ (of : Module). of.exports) c.module.ensures)
    (c.in_ok-differ.ensures.valid c.if-not-differ.false) in
    on_ok_weaker c.check_funcs.result
    (λ bodies. record { outside = declared_valid m c.requires names; bodies = bodies })
    c.check_funcs.ensures.valid
