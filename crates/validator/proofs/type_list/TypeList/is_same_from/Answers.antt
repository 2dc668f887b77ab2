use Rattle.std.proofs.Common.{drop, refl, ap, sym, ◌∙◌}
use Rattle.wasm_ast.specs.Types.{are_same_types}
use Rattle.wasm_ast.proofs.SameTypes.{themselves}
use Rattle.validator.proofs.type_list.TypeList.is_same_from.Goals as goal

pub returns-then-has_same_bytes : goal.returns-then-has_same_bytes
returns-then-has_same_bytes c =
    let types = drop c.args.at c.args.self.now in
    let same = c.if-has_same_bytes.ensures refl in
    c.if-has_same_bytes.true ∙ (sym (themselves types) ∙ ap (are_same_types types) same)
