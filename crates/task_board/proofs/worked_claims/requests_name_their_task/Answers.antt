use Rattle.std.proofs.Common.{refl}
use Rattle.task_board.proofs.ClaimParts.{told_left}
use Rattle.task_board.proofs.worked_claims.requests_name_their_task.Goals as goal

pub returns-clause-created : goal.returns-clause-created
returns-clause-created c config id = refl

pub returns-clause-asked : goal.returns-clause-asked
returns-clause-asked c id k = refl

pub returns-clause-deleted : goal.returns-clause-deleted
returns-clause-deleted c id found left = refl

pub returns-clause-left : goal.returns-clause-left
returns-clause-left c q found left other = told_left q found left other
