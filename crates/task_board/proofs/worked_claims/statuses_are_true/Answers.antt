use Rattle.std.proofs.Common.{refl}
use Rattle.task_requests.specs.declared.request.Request.TheVariants as request
use Rattle.task_requests.specs.declared.request.Ask.TheVariants as ask
use Rattle.task_requests.specs.declared.request.Reply.TheVariants as reply
use Rattle.task_board.proofs.ClaimParts.{status_part}
use Rattle.task_board.proofs.worked_claims.statuses_are_true.Goals as goal

pub returns-clause-create : goal.returns-clause-create
returns-clause-create c store t config id name status says =
    status_part store t (request.Create config id) (reply.Create name status) says name status refl refl

pub returns-clause-start : goal.returns-clause-start
returns-clause-start c store t id name status says =
    status_part store t (request.Task id ask.Start) (reply.Start name status) says name status refl refl

pub returns-clause-pause : goal.returns-clause-pause
returns-clause-pause c store t id name status says =
    status_part store t (request.Task id ask.Pause) (reply.Pause name status) says name status refl refl

pub returns-clause-resume : goal.returns-clause-resume
returns-clause-resume c store t id name status says =
    status_part store t (request.Task id ask.Resume) (reply.Resume name status) says name status refl refl

pub returns-clause-kill : goal.returns-clause-kill
returns-clause-kill c store t id signal name status says =
    status_part store t (request.Task id (ask.Kill signal)) (reply.Kill name status) says name status refl refl
