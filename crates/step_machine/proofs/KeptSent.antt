-- What lies outside the innermost frame may go to another thread.
use denote.Param.Send.{IsSend, sendable}
use Rattle.std.proofs.Crossing as std_sent
use Rattle.linear_memory.proofs.Crosses.{memory_send}
use Rattle.oci_config.proofs.process.Process.TheSendSync as process
use Rattle.step_machine.proofs.callers.Callers.TheSendSync as callers
use Rattle.step_machine.specs.contracts.kept.Kept as kepts

pub kept_send : IsSend kepts.the_row
kept_send = search (sendable, std_sent.crosses, memory_send, callers.the_send, process.the_send) depth 40
