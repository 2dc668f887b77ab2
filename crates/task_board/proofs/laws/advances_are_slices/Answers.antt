use Rattle.task_board.proofs.AdvanceLemmas.{can_lend_parts, by_turns, by_slices}
use Rattle.task_board.proofs.laws.advances_are_slices.Goals as goal

pub returns-clause-slices : goal.returns-clause-slices
returns-clause-slices c creates t k sound can may =
    let parts = can_lend_parts creates t sound can in
    by_turns c.slices_go_forward.ensures.at_least c.slices_stop_first.ensures.not_before
    c.slices_go_forward.ensures.at_most k t parts.0 parts.1 may

pub returns-clause-advance : goal.returns-clause-advance
returns-clause-advance c creates t k sound can budgets made =
    let parts = can_lend_parts creates t sound can in
    by_slices c.slices_go_forward.ensures.at_least c.slices_stop_first.ensures.not_before
    c.slices_go_forward.ensures.at_most budgets t k parts.0 parts.2 made
