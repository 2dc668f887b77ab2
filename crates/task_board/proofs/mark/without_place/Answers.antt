use Rattle.std.proofs.Common.{◌∙◌, ap, filter, List, Bool, rules}
use Rattle.std.proofs.lemmas.Fn.{filter_same}
use Rattle.wasm_ast.specs.declared.place.Place.{Place}
use Rattle.task_board.specs.Tasks.{is_other}
use Rattle.task_board.proofs.mark.without_place.Goals as goal

pub returns : goal.returns
returns c =
    let test : Place → Bool = is_other c.args.place in
    filter_same _ test _ (λ x b g call. search rules) _ _ c.retain.ensures.filtered
    ∙ ap (λ (ps : List Place). filter test ps) c.in_ok-left.ensures.items
