use Rattle.std.proofs.Common.{◌≡◌, ◌++◌, ◌∷◌, [], take, drop, map, ap, ◌∙◌}
use Rattle.std.proofs.lemmas.List.{take-append-le}
use Rattle.validator.specs.Inside.Blocks.{Blocks, group_types, types_of, with_operands}
use Rattle.validator.proofs.GroupLemmas.{types_pushed}
use Rattle.validator.proofs.OperandLemmas.{same_blocks}
use Rattle.validator.proofs.operands.Operands.push_group.Goals as goal

pub returns : goal.returns
returns c =
    let items = c.self.inside.groups.items in
    let base = c.self.inside.base in
    let group = c.args.group in
    let old = c.args.self.now in
    let now = c.push.new.self.items in
    let pushed : now ≡ items ++ (group ∷ []) = c.in_ok-push.ensures.items in
    let outside : map group_types (take base now) ≡ old.outside =
    ap (λ groups. map group_types (take base groups)) pushed
    ∙ (ap (map group_types) (take-append-le base items (group ∷ []) c.self.invariant)
    ∙ ap (λ (o : Blocks). o.outside) c.self.view_is) in
    let types : types_of (drop base now) ≡ group_types group ++ old.stack.types =
    ap (λ groups. types_of (drop base groups)) pushed
    ∙ (types_pushed items base group c.self.invariant
    ∙ ap (λ (o : Blocks). group_types group ++ o.stack.types) c.self.view_is) in
    same_blocks (with_operands old (group_types group ++ old.stack.types)) (map group_types (take base now))
    c.self.inside.unreachable (types_of (drop base now)) outside
    (ap (λ (o : Blocks). o.stack.unreachable) c.self.view_is)
    types
