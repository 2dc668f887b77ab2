use Rattle.std.proofs.Common.{List, Option, ap, sym, subst}
use Rattle.wasm_ast.specs.declared.values.ValType.{ValType}
use Rattle.validator.specs.Inside.Blocks.{Blocks, IsOuter}
use Rattle.validator.proofs.bodies.close.Goals as goal

pub returns-clause-operands : goal.returns-clause-operands
returns-clause-operands c = λ passes o outer.
    let same = ap (λ (o : Blocks). o.outside) c.end.ensures.rest in
    c.leave.ensures o
    (subst (λ (groups : List (List (Option ValType))). IsOuter c.args.outer o groups) (sym same) outer)
