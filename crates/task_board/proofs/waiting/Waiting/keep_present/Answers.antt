use Rattle.std.proofs.Common.{◌∙◌, ap, filter, List, Bool, rules}
use Rattle.std.proofs.lemmas.Fn.{filter_same}
use Rattle.slab.specs.Slab.{entries}
use Rattle.task_board.specs.declared.ticket.Ticket.{Ticket}
use Rattle.task_board.specs.Waiting.{is_present}
use Rattle.task_board.proofs.waiting.Waiting.keep_present.Goals as goal

pub returns : goal.returns
returns c =
    let test : Ticket → Bool = is_present (entries c.args.tasks.now) in
    filter_same _ test _ (λ x b g call. search rules) _ _ c.retain.ensures.filtered
    ∙ ap (λ (ws : List Ticket). filter test ws) c.self.view_is
