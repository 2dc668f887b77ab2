use Rattle.std.proofs.Common.{◌≡◌, Some, true≢false, ap, sym, ◌∙◌}
use Rattle.std.specs.Prelude.{slice_get}
use Rattle.std.proofs.lemmas.Result.{on_ok_weaker}
use Rattle.wasm_ast.specs.declared.module.Module.{Module}
use Rattle.validator.proofs.ModuleExact.{func_valid, func_passes}
use Rattle.validator.proofs.validation.check_func.Goals as goal

pub returns-clause-valid : goal.returns-clause-valid
returns-clause-valid c =
    let m = c.args.of.now in
    let t = c.in-Some.func_type.now in
    let f = c.args.func.now in
    let is : slice_get m.types f.type_index ≡ Some t =
    ap (λ (of : Module). slice_get of.types f.type_index) (sym c.module.ensures) ∙ sym c.in-Some.ensures in
    on_ok_weaker c.check_whole.result (λ passes. func_valid m t f is passes) c.check_whole.ensures.valid

pub returns-clause-invalid : goal.returns-clause-invalid
returns-clause-invalid c = λ at invalid valid.
    let m = c.args.of.now in
    let t = c.in-Some.func_type.now in
    let f = c.args.func.now in
    let is : slice_get m.types f.type_index ≡ Some t =
    ap (λ (of : Module). slice_get of.types f.type_index) (sym c.module.ensures) ∙ sym c.in-Some.ensures in
    true≢false (sym (func_passes m t f is valid) ∙ c.check_whole.ensures.invalid at invalid)
