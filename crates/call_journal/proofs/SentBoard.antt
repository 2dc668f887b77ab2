-- A board may go from thread to thread: each type is found by the types of its fields.
use denote.Param.Send.{IsSend, IsSync, sendable}
use Rattle.std.proofs.Crossing as std_sent
use Rattle.std.proofs.MapsCrossing as maps_sent
use Rattle.wasm_ast.proofs.text.Text.TheSendSync as text
use Rattle.wasm_ast.proofs.sequence.Sequence.TheSendSync as sequence
use Rattle.step_machine.specs.contracts.flat_module.FlatModule as flats
use Rattle.step_machine.specs.contracts.machine.Machine as machines
use Rattle.step_machine.proofs.flat_module.Code.TheSendSync as code
use Rattle.step_machine.proofs.RestingSent.{resting_send, resting_field_send}
use Rattle.step_machine.proofs.KeptSent.{kept_send}
use Rattle.step_machine.proofs.callers.Callers.TheSendSync as callers
use Rattle.linear_memory.proofs.Crosses.{memory_send}
use Rattle.oci_config.proofs.process.Process.TheSendSync as process
use Rattle.step_machine.specs.contracts.kept.Kept as kepts
use Rattle.step_machine.proofs.ends.End.TheSendSync as end
use Rattle.step_machine.proofs.breaks.Breaks.TheSendSync as breaks
use Rattle.oci_config.proofs.process.ProcessConfig.TheSendSync as config
use Rattle.task_lifecycle.proofs.status.Status.TheSendSync as status
use Rattle.task_lifecycle.proofs.status.Signal.TheSendSync as signal
use Rattle.task_lifecycle.proofs.status.ExitRecord.TheSendSync as record_
use Rattle.content_leases.proofs.store.Store.TheSendSync as store
use Rattle.task_board.proofs.waiting.Waiting.TheSendSync as waiting
use Rattle.task_board.specs.contracts.checkout.Shared as shareds
use Rattle.task_board.specs.contracts.checkout.Checkout as checkouts
use Rattle.task_board.specs.contracts.task.Task as tasks
use Rattle.task_board.specs.contracts.opened.Opened as openeds
use Rattle.task_board.specs.contracts.board.Board as boards
use Rattle.call_journal.proofs.SentModule.{valid_send, valid_sync}

flat_send : IsSend flats.the_row
flat_send = search (sendable, std_sent.crosses, valid_send, code.the_send, code.the_sync) depth 40

flat_sync : IsSync flats.the_row
flat_sync = search (sendable, std_sent.crosses, valid_sync, code.the_send, code.the_sync) depth 40

kept_field_send : IsSend (kepts.the_field).row
kept_field_send = search (sendable, std_sent.crosses, memory_send, callers.the_send, process.the_send) depth 40

machine_send : IsSend machines.the_row
machine_send =
    search
    (sendable, std_sent.crosses, flat_send, resting_send, resting_field_send, kept_send, kept_field_send, end.the_send)
    depth 40 fits 100000

shared_send : IsSend shareds.the_row
shared_send =
    search (sendable, std_sent.crosses, flat_send, text.the_send, sequence.the_send, sequence.the_sync, config.the_send)
    depth 40

shared_sync : IsSync shareds.the_row
shared_sync =
    search (sendable, std_sent.crosses, flat_sync, text.the_sync, sequence.the_send, sequence.the_sync, config.the_sync)
    depth 40

checkout_send : IsSend checkouts.the_row
checkout_send =
    search
    (sendable, std_sent.crosses, machine_send, shared_send, shared_sync, breaks.the_send, breaks.the_sync) depth 40

task_send : IsSend tasks.the_row
task_send =
    search (
      sendable,
      std_sent.crosses,
      checkout_send,
      shared_send,
      shared_sync,
      breaks.the_send,
      breaks.the_sync,
      status.the_send,
      signal.the_send,
      record_.the_send,
    )
    depth 40

opened_send : IsSend openeds.the_row
opened_send = search (sendable, std_sent.crosses, maps_sent.crosses, flat_send) depth 60

pub board_send : IsSend boards.the_row
board_send = search (sendable, std_sent.crosses, store.the_send, opened_send, task_send, waiting.the_send) depth 60
