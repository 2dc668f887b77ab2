use Rattle.std.proofs.Common.{◌≡◌, ◌⊎◌, ◌∙◌, sym, ap, subst, Err, rules}
use Rattle.wasm_ast.specs.declared.refusal.Refusal.{Refusal}
use Rattle.wasm_ast.specs.declared.refusal.Refusal.TheVariants as refusal
use Rattle.wasm_binary.specs.Spelled.{IsSpelled}
use Rattle.task_board.specs.Refusals.{CannotOpen, invalid}
use Rattle.task_board.proofs.InstantiateLemmas.{undecoded, unchecked}
use Rattle.task_board.proofs.open.module_of.Goals as goal

pub returns-in_err-module-clause-refused : goal.returns-in_err-module-clause-refused
returns-in_err-module-clause-refused c e p is other =
    let x = c.in_err-module.field-0.0 in
    let same : x ≡ e = search rules in
    let told = c.in_err-module.ensures in
    let causes : (x ≡ refusal.BadModule) ⊎ ((x ≡ refusal.Limit) ⊎ (x ≡ refusal.NoMemory)) = told.causes in
    let says = undecoded c.args.bytes.now p x
    (record {
      bad = λ h. told.bad (ap Err h);
      over = λ h. told.over (ap Err h);
      none = λ h. told.none_within (ap Err h);
    }) causes in
    subst (λ (y : Refusal). CannotOpen c.args.bytes.now p y) same (says (λ n. other (sym same ∙ n)))

pub returns-in_err-valid-clause-refused : goal.returns-in_err-valid-clause-refused
returns-in_err-valid-clause-refused c e p is other =
    let x = c.in_err-valid.field-0.0 in
    let same : x ≡ e = search rules in
    let m = c.in_ok-module.module in
    let spelled : IsSpelled c.args.bytes.now m =
    record {
      spells = c.in_ok-module.ensures.spelled;
      within = c.in_ok-module.ensures.within.0;
      short = c.in_ok-module.ensures.within.1;
    } in
    let why = unchecked c.validate.result e c.validate.ensures.err (c.in_err-valid.was ∙ ap Err same) other in
    subst (λ (y : Refusal). CannotOpen c.args.bytes.now p y) (sym why.1)
    (invalid m why.0 spelled (c.validate.ensures.invalid why.0 (c.in_err-valid.was ∙ ap Err (same ∙ why.1))))

pub returns-clause-refused : goal.returns-clause-refused
returns-clause-refused c e p is other =
    let memory : e ≡ refusal.NoMemory = search rules in
    absurd (other memory)
