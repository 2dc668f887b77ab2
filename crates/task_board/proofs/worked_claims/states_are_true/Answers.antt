use Rattle.std.proofs.Common.{refl}
use Rattle.task_requests.specs.declared.request.Request.TheVariants as request
use Rattle.task_requests.specs.declared.request.Ask.TheVariants as ask
use Rattle.task_requests.specs.declared.request.Reply.TheVariants as reply
use Rattle.task_board.proofs.ClaimParts.{state_part}
use Rattle.task_board.proofs.worked_claims.states_are_true.Goals as goal

pub returns-clause-state : goal.returns-clause-state
returns-clause-state c store t id x says =
    state_part store t (request.Task id ask.State) (reply.State x) says x refl refl refl refl refl

pub returns-clause-wait : goal.returns-clause-wait
returns-clause-wait c store t id x says =
    state_part store t (request.Task id ask.Wait) (reply.Wait x) says x refl refl refl refl refl

pub returns-clause-step : goal.returns-clause-step
returns-clause-step c store t count id x says =
    state_part store t (request.Task id (ask.Step count)) (reply.Step x) says x refl refl refl refl refl

pub returns-clause-delete : goal.returns-clause-delete
returns-clause-delete c store t id x says =
    state_part store t (request.Task id ask.Delete) (reply.Delete x) says x refl refl refl refl refl
