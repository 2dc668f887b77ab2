use Rattle.std.proofs.Common.{◌≡◌, Some, rules}
use Rattle.content_leases.specs.Refusals.{first_refusal}
use Rattle.task_board.specs.Refusals.{id_refusals}
use Rattle.task_board.proofs.StepLemmas.{id_refused, id_refusal_known}
use Rattle.task_board.proofs.board.Board.prepare_create.Goals as goal

pub returns-in-Some-clause-ok : goal.returns-in-Some-clause-ok
returns-in-Some-clause-ok c =
    let s = c.args.self.now.state in
    let is : first_refusal (id_refusals s c.args.id) ≡ Some c.in-Some.refusal = search rules in
    (id_refusal_known s c.args.id c.in-Some.refusal is, id_refused s c.args.config c.args.id c.in-Some.refusal _ is)
