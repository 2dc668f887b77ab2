use denote.Param.Send.{sendable}
use Rattle.std.proofs.Crossing as std_sent
use Rattle.call_journal.proofs.SentShim.{shim_send, shim_sync}
use Rattle.callers.proofs.flight.InFlight.TheSendSync as flight
use Rattle.callers.proofs.living.LiveCaller.TheSendSync as caller
use Rattle.callers.proofs.living.start.Goals as goal

pub spawn_with-requires-send-F : goal.spawn_with-requires-send-F
spawn_with-requires-send-F g c κs within =
    let b = c.type_bounds in
    let j = b.send-J in
    let h = b.send-H in
    let r = b.send-R in
    let w = b.send-W in
    let n = b.send-N in
    let js = b.sync-J in
    let hs = b.sync-H in
    search (
      sendable,
      std_sent.crosses,
      std_sent.send,
      shim_sync,
      shim_send,
      flight.the_sync,
      caller.the_send,
    )
    depth 30 fits 100000

pub spawn_with-requires-send-T : goal.spawn_with-requires-send-T
spawn_with-requires-send-T g c κs within =
    let b = c.type_bounds in
    let j = b.send-J in
    let r = b.send-R in
    let w = b.send-W in
    let n = b.send-N in
    search (sendable, std_sent.crosses) depth 30 fits 100000
