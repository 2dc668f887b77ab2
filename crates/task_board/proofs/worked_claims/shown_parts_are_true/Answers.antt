use Rattle.std.proofs.Common.{refl}
use Rattle.task_requests.specs.declared.request.Request.TheVariants as request
use Rattle.task_requests.specs.declared.request.Ask.TheVariants as ask
use Rattle.task_requests.specs.declared.request.Reply.TheVariants as reply
use Rattle.task_board.proofs.ClaimParts.{name_part}
use Rattle.task_board.proofs.worked_claims.shown_parts_are_true.Goals as goal

pub returns-clause-inspect : goal.returns-clause-inspect
returns-clause-inspect c store t id name frames n says = (
  name_part store t (request.Task id ask.Inspect) (reply.Inspect frames name n) says name refl,
  says.turns n refl,
  says.shows,
)

pub returns-clause-output : goal.returns-clause-output
returns-clause-output c store t id name bytes number size says =
    let s = says.shows in
    let whole = says.answers (λ x. refl) in (
      name_part store t (request.Task id (ask.Output number)) (reply.Output bytes name size) says name refl,
      cc,
      s.0,
      s.1,
      s.2,
    )

pub returns-clause-peek : goal.returns-clause-peek
returns-clause-peek c store t id name bytes address length says =
    (name_part store t (request.Task id (ask.Peek address length)) (reply.Peek bytes name) says name refl, says.shows)

pub returns-clause-breaks : goal.returns-clause-breaks
returns-clause-breaks c store t id name func place says =
    name_part store t (request.Task id (ask.Break func place)) (reply.Break name) says name refl

pub returns-clause-unbreaks : goal.returns-clause-unbreaks
returns-clause-unbreaks c store t id name func place says =
    name_part store t (request.Task id (ask.Unbreak func place)) (reply.Unbreak name) says name refl
