use Rattle.std.proofs.Common.{drop, map, take, ap, ◌∙◌}
use Rattle.validator.specs.Inside.Blocks.{Blocks, group_types, types_of}
use Rattle.validator.proofs.OperandLemmas.{left_outside, same_blocks}
use Rattle.validator.proofs.operands.Operands.leave.Goals as goal

pub returns : goal.returns
returns c = λ o outer.
    let items = c.self.inside.groups.items in
    let height = c.args.outer.base in
    let both =
    left_outside o outer.2 items c.self.inside.base height
    (ap (λ (o : Blocks). o.outside) c.self.view_is ∙ outer.3) outer.4
    (ap (λ (o : Blocks). o.stack.types) c.self.view_is ∙ c.requires.none) outer.0 in
    same_blocks o (map group_types (take height items)) c.args.outer.unreachable (types_of (drop height items)) both.0
    outer.1 both.1
