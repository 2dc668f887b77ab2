use Rattle.std.proofs.Common.{◌≡◌, Option, None, true≢false, subst, sym, ◌∙◌}
use Rattle.wasm_ast.specs.declared.place.Place.{Place}
use Rattle.validator.specs.Faults.{NamesFault}
use Rattle.validator.proofs.ModuleExact.{declared_valid, valid_declared}
use Rattle.validator.proofs.valid_module.validate.Goals as goal

pub returns-then-not-is_declared-clause-invalid : goal.returns-then-not-is_declared-clause-invalid
returns-then-not-is_declared-clause-invalid c = λ at is.
    let m = c.args.unchecked in
    let none : ◌≡◌ {A = Option Place} None at = cc in
    subst (NamesFault m) none
    (λ valid. true≢false
    (sym (valid_declared m valid) ∙ (sym c.is_declared.ensures ∙ c.if-not-is_declared.true)))

pub returns-clause-outside : goal.returns-clause-outside
returns-clause-outside c =
    let m = c.args.unchecked in
    λ names invalid. absurd (invalid (declared_valid m (sym c.is_declared.ensures ∙ c.if-not-is_declared.false) names))
