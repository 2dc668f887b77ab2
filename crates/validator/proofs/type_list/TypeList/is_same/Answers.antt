use Rattle.std.proofs.Common.{sym, ◌∙◌}
use Rattle.wasm_ast.proofs.SameTypes.{other_length}
use Rattle.validator.proofs.type_list.TypeList.is_same.Goals as goal

pub returns-then-len : goal.returns-then-len
returns-then-len c =
    other_length c.args.self.now c.args.other.now (λ e. c.if-len.true (c.len.ensures ∙ (e ∙ sym c.len-2.ensures)))
