use Rattle.std.proofs.Common.{◌≡◌, ◌∙◌, ℕ, Some, None, nat_eq, sym, ap, rules}
use Rattle.slab.specs.Slab.{entries, get}
use Rattle.task_board.specs.BoardState.{task_in}
use Rattle.task_board.specs.Waiting.{has_incarnation}
use Rattle.task_board.proofs.SlabLemmas.{in_slab}
use Rattle.task_board.proofs.task.is_present.Goals as goal

pub returns-in-Some : goal.returns-in-Some
returns-in-Some c =
    let here : get c.args.tasks.now c.args.ticket.slot ≡ Some c.in-Some.task.now = search rules in
    let at : task_in c.args.ticket.slot (entries c.args.tasks.now) ≡ Some c.in-Some.task.now =
    in_slab c.args.tasks.now c.args.ticket.slot ∙ here in
    ap (λ (n : ℕ). nat_eq n c.args.ticket.incarnation) c.incarnation.ensures
    ∙ sym (ap (has_incarnation c.args.ticket.incarnation) at)

pub returns-in-None : goal.returns-in-None
returns-in-None c =
    let none : get c.args.tasks.now c.args.ticket.slot ≡ None = search rules in
    let at : task_in c.args.ticket.slot (entries c.args.tasks.now) ≡ None =
    in_slab c.args.tasks.now c.args.ticket.slot ∙ none in
    sym (ap (has_incarnation c.args.ticket.incarnation) at)
