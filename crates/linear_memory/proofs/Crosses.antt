-- A memory may go to another thread: what it owns are bytes, and the right to free their block.
use denote.Param.Send.{IsSend, sendable}
use Rattle.std.proofs.Crossing as std_sent
use Rattle.raw_block.proofs.Crosses.{row_send, deed_send}
use Rattle.linear_memory.specs.contracts.memory.LinearMemory as memory

pub memory_send : IsSend memory.the_row
memory_send = search (sendable, std_sent.crosses, row_send, deed_send) depth 40
