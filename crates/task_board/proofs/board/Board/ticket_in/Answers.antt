use Rattle.std.proofs.Common.{◌≡◌, ◌∙◌, Some, None, option_and_then, sym, ap, rules}
use Rattle.slab.specs.Slab.{get}
use Rattle.task_board.specs.BoardValue.{BoardValue}
use Rattle.task_board.specs.Tickets.{ticket_if_running, ticket_in}
use Rattle.task_board.proofs.SlabLemmas.{in_slab}
use Rattle.task_board.proofs.board.Board.ticket_in.Goals as goal

pub returns-in-Some : goal.returns-in-Some
returns-in-Some c =
    let here : get c.self.inside.tasks c.args.slot ≡ Some c.in-Some.task.now = search rules in
    let at = in_slab c.self.inside.tasks c.args.slot ∙ here in
    c.ticket.ensures ∙ (sym (ap (option_and_then (ticket_if_running c.args.slot)) at)
    ∙ ap (λ (v : BoardValue). ticket_in c.args.slot v.state.tasks) c.self.view_is)

pub returns-in-None : goal.returns-in-None
returns-in-None c =
    let none : get c.self.inside.tasks c.args.slot ≡ None = search rules in
    let at = in_slab c.self.inside.tasks c.args.slot ∙ none in
    sym (ap (option_and_then (ticket_if_running c.args.slot)) at)
    ∙ ap (λ (v : BoardValue). ticket_in c.args.slot v.state.tasks) c.self.view_is
