-- A stack may go to another thread: what it owns are words, and the right to free their block.
use denote.Param.Send.{IsSend, sendable}
use Rattle.std.proofs.Crossing as std_sent
use Rattle.raw_block.proofs.Crosses.{row_send, deed_send}
use Rattle.operand_stack.specs.contracts.stack.OperandStack as stack

pub stack_send : IsSend stack.the_row
stack_send = search (sendable, std_sent.crosses, row_send, deed_send) depth 40
