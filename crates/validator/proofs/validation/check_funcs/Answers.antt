use Rattle.std.proofs.Common.{All, Err, ap, subst, sym, ◌∙◌, ◌≡◌, Some, List}
use Rattle.std.specs.Prelude.{slice_get}
use Rattle.std.proofs.lemmas.List.{take_all}
use Rattle.validator.specs.Inside.CheckErrors.{IsAt}
use Rattle.validator.specs.Typing.{ValidBody}
use Rattle.wasm_ast.specs.declared.module.Func.{Func}
use Rattle.wasm_ast.specs.declared.module.Module.{Module}
use Rattle.validator.proofs.FaultLemmas.{get_there, own_fault, err_refusal}
use Rattle.validator.proofs.validation.check_funcs.Goals as goal

pub returns-in-Err-clause-invalid : goal.returns-in-Err-clause-invalid
returns-in-Err-clause-invalid c = λ at is.
    let m = c.args.of.now in
    let f = c.index-funcs-i.result in
    let there : slice_get m.funcs c.loop-i.i ≡ Some f =
    ap (λ (of : Module). slice_get of.funcs c.loop-i.i) (sym c.module.ensures)
    ∙ ap (λ (fs : List Func). slice_get fs c.loop-i.i) (sym c.as_slice-funcs.ensures)
    ∙ get_there c.as_slice-funcs.result.now c.loop-i.i f c.loop-i-test.true ∙ ap Some (sym c.index-funcs-i.is) in
    own_fault m c.loop-i.i f c.in-Err.error at there
    (subst (λ (of : Module). IsAt of c.loop-i.i c.in-Err.error at) c.module-in-Err.ensures
    (c.refusal_at.ensures.at at (err_refusal c.refusal_at.result at is)))
    (λ k e. c.in-Err.ensures.invalid k (ap Err e)) (λ k e. c.in-Err.ensures.place k (ap Err e))

pub returns-clause-valid : goal.returns-clause-valid
returns-clause-valid c =
    subst (All (ValidBody c.args.of.now))
    (take_all c.loop-i.i c.as_slice-funcs.result.now c.loop-i-test.false
    ∙ c.loop-i.invariant.items) c.loop-i.invariant.valid
