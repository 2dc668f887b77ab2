-- What a machine keeps of the innermost frame may go to another thread.
use denote.Param.Send.{IsSend, sendable, recorded_send, struct_send}
use denote.Struct.Declared.{shape}
use Rattle.operand_stack.proofs.Crosses.{stack_send}
use Rattle.step_machine.specs.contracts.resting.Resting as restings

pub resting_field_send : IsSend (restings.the_field).row
resting_field_send =
    struct_send (shape restings.the_type) (stack_send, (search sendable depth 20, (search sendable depth 20, tt)))

pub resting_send : IsSend restings.the_row
resting_send = recorded_send (restings.the_field).row _ _ (restings.the_type).to_one resting_field_send
