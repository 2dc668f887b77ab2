use Rattle.std.proofs.Common.{ap, Err}
use Rattle.std.proofs.lemmas.Result.{on_ok_weaker}
use Rattle.file_commands.proofs.ReplayLemmas.{adds_event, adds_bad}
use Rattle.file_commands.proofs.replay.Script.read.Goals as goal

pub returns-in-Ok : goal.returns-in-Ok
returns-in-Ok c =
    on_ok_weaker c.add_event.result
    (λ added. adds_event c.args.line.now c.in-Ok.event _ _ _ _ c.in-Ok.ensures.ok added.0 added.1)
    c.add_event.ensures.ok

pub returns-in-Err-NoRequest : goal.returns-in-Err-NoRequest
returns-in-Err-NoRequest c =
    let bad = c.in-Err-NoRequest.ensures.none (ap Err c.in-Err-NoRequest.field-0-is) in
    on_ok_weaker c.add_bad.result
    (λ added. adds_bad c.args.line.now _ _ _ _ bad added (ap (λ v. v.items) c.add_bad.ensures.events))
    c.add_bad.ensures.ok
