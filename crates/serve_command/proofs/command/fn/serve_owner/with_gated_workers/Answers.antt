use denote.Param.Send.{sendable}
use Rattle.std.proofs.Crossing as std_sent
use Rattle.callers.proofs.flight.Attended.TheSendSync as attended
use Rattle.request_lines.proofs.stream.Watched.TheSendSync as watched
use Rattle.serve_command.proofs.command.fn.serve_owner.with_gated_workers.Goals as goal

pub answer_live-requires-send-J : goal.answer_live-requires-send-J
answer_live-requires-send-J g c κs within =
    let bounds = c.requires in
    search (sendable, std_sent.crosses) depth 30 fits 100000

pub answer_live-requires-send-R : goal.answer_live-requires-send-R
answer_live-requires-send-R g c κs within =
    let bounds = c.requires in
    search (sendable, std_sent.crosses, attended.the_send, watched.the_send) depth 30 fits 100000

pub answer_live-requires-send-W : goal.answer_live-requires-send-W
answer_live-requires-send-W g c κs within =
    let bounds = c.requires in
    search (sendable, std_sent.crosses, watched.the_send) depth 30 fits 100000
