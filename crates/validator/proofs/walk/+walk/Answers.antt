use Rattle.std.proofs.Common.{◌≡◌, ap, sym, ◌∙◌}
use Rattle.std.proofs.lemmas.Result.{on_ok_weaker}
use Rattle.wasm_ast.specs.declared.instr.Arms.{Arms}
use Rattle.wasm_ast.specs.Syntax.{if'}
use Rattle.wasm_ast.specs.View.{op_of}
use Rattle.validator.specs.Inside.FunctionContext.{context_of, func_type_of}
use Rattle.validator.proofs.PlaceExact.{known_in_if}
use Rattle.validator.proofs.walk.+walk.Goals as goal

pub enter_instr-returns-in-Some-block_types-3-clause-ok :
    goal.enter_instr-returns-in-Some-block_types-3-clause-ok
enter_instr-returns-in-Some-block_types-3-clause-ok t c =
    let arms = c.deref-in-If.result.now in
    let types = func_type_of c.in-Some-block_types-3.types in
    let is : op_of c.args.instr.now ≡ if' c.in-If.kind arms.then_arm arms.else_arm =
    ap op_of c.in-If.is
    ∙ ap (λ (a : Arms). if' c.in-If.kind a.then_arm a.else_arm) (sym c.deref-in-If.ensures) in
    let known =
    known_in_if (context_of c.args.function.now c.args.labels.now) c.args.stacks.now (op_of c.args.instr.now)
    c.args.operands.stack c.args.place c.in-Some.inside c.in-If.kind arms.then_arm arms.else_arm types
    c.in-Some.ensures.0 c.in-Some.ensures.1 is c.in-Some-block_types-3.ensures in
    on_ok_weaker c.enter_if.result (λ h. known ∙ h) c.enter_if.ensures.ok

pub enter_instr-returns-in-Some-block_types-3-clause-invalid :
    goal.enter_instr-returns-in-Some-block_types-3-clause-invalid
enter_instr-returns-in-Some-block_types-3-clause-invalid t c =
    let arms = c.deref-in-If.result.now in
    let types = func_type_of c.in-Some-block_types-3.types in
    let is : op_of c.args.instr.now ≡ if' c.in-If.kind arms.then_arm arms.else_arm =
    ap op_of c.in-If.is
    ∙ ap (λ (a : Arms). if' c.in-If.kind a.then_arm a.else_arm) (sym c.deref-in-If.ensures) in
    let known =
    known_in_if (context_of c.args.function.now c.args.labels.now) c.args.stacks.now (op_of c.args.instr.now)
    c.args.operands.stack c.args.place c.in-Some.inside c.in-If.kind arms.then_arm arms.else_arm types
    c.in-Some.ensures.0 c.in-Some.ensures.1 is c.in-Some-block_types-3.ensures in
    λ invalid. known ∙ c.enter_if.ensures.invalid invalid
