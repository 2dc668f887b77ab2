use Rattle.std.proofs.Common.{refl}
use Rattle.task_board.proofs.worked_claims.modules_are_stored.Goals as goal

pub returns-clause-module : goal.returns-clause-module
returns-clause-module c store t q a says = (says.stored, says.encoded, says.valid)

pub returns-clause-process : goal.returns-clause-process
returns-clause-process c store t config id a says = says.process config id refl
