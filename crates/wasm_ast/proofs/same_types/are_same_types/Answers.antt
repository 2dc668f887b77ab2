use Rattle.wasm_ast.proofs.SameTypes.{other_length}
use Rattle.wasm_ast.proofs.same_types.are_same_types.Goals as goal

pub returns-then-types-others : goal.returns-then-types-others
returns-then-types-others c = other_length c.args.types.now c.args.others.now c.if-types-others.true
