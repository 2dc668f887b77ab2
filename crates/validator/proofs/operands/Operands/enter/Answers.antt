use Rattle.std.proofs.Common.{◌≡◌, ◌++◌, length, take, drop, map, ap, sym, ◌∙◌, rules}
use Rattle.std.proofs.lemmas.List.{take-append-drop, map-append, take_all, length-map, length-take-le}
use Rattle.validator.specs.Inside.Blocks.{Blocks, group_types}
use Rattle.validator.proofs.operands.Operands.enter.Goals as goal

pub returns-clause-outer : goal.returns-clause-outer
returns-clause-outer c =
    let items = c.self.inside.groups.items in
    let base = c.self.inside.base in
    let outside = ap (λ (o : Blocks). o.outside) c.self.view_is in
    let whole :
    map group_types (take c.len-self-inside.result items) ≡ map group_types items = search (rules, take_all) in
    let parts : map group_types items ≡ map group_types (take base items) ++ map group_types (drop base items) =
    ap (map group_types) (sym (take-append-drop base items))
    ∙ map-append group_types (take base items) (drop base items) in (
      sym (sym (ap length outside)
          ∙ (length-map (take base items) group_types ∙ length-take-le base items c.self.invariant)),
      ap (λ (o : Blocks). o.stack.unreachable) c.self.view_is,
      map group_types (drop base items),
      whole ∙ (parts ∙ ap (λ groups. groups ++ map group_types (drop base items)) outside),
      ap (λ (o : Blocks). o.stack.types) c.self.view_is,
    )
