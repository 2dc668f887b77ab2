use Rattle.std.proofs.Common.{◌∙◌, ap, filter, not, List, Bool, rules}
use Rattle.std.proofs.lemmas.Fn.{filter_same}
use Rattle.task_board.specs.declared.ticket.Ticket.{Ticket}
use Rattle.task_board.specs.Waiting.{is_ticket}
use Rattle.task_board.proofs.waiting.Waiting.leave.Goals as goal

pub returns : goal.returns
returns c =
    let test : Ticket → Bool = λ w. not (is_ticket w c.args.ticket) in
    filter_same _ test _ (λ x b g call. search rules) _ _ c.retain.ensures.filtered
    ∙ ap (λ (ws : List Ticket). filter test ws) c.self.view_is
