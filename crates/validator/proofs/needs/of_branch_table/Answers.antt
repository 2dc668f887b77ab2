use Rattle.std.proofs.Common.{List, sym, subst, ◌∙◌}
use Rattle.wasm_ast.specs.declared.values.ValType.{ValType}
use Rattle.validator.specs.Inside.Needs.{LacksOther}
use Rattle.validator.proofs.SimpleExact.{table_lacks}
use Rattle.validator.proofs.needs.of_branch_table.Goals as goal

pub returns-in-Some-first_other-clause-lacks : goal.returns-in-Some-first_other-clause-lacks
returns-in-Some-first_other-clause-lacks c =
    let label = c.in-Some-first_other.label in
    let lack = c.lack_of_other.result in
    let there = sym c.get.ensures ∙ c.in-Some.is in
    let others = c.in-Some-first_other.ensures.first c.in-Some.types there in
    table_lacks c.args.labels.now c.args.list.now c.args.other label c.in-Some.types lack there others.0 others.1
    (subst (λ (labels : List (List ValType)). LacksOther labels label lack) c.first_other.ensures.labels
    c.lack_of_other.ensures)
