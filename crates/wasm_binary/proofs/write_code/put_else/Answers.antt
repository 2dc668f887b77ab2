use Rattle.wasm_binary.proofs.WriteInstrs.{else_some}
use Rattle.wasm_binary.proofs.write_code.put_else.Goals as goal

pub returns : goal.returns
returns c =
    rw (else_some c.as_slice.result.now c.args.else_arm.now c.as_slice.ensures c.if-is_empty.ensures)
    c.put_opcode.ensures
