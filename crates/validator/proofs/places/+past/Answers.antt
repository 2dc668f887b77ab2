use Rattle.std.proofs.Common.{ap, arith}
use Rattle.wasm_ast.specs.declared.instr.Instr.{Instr}
use Rattle.wasm_ast.specs.Syntax.{count}
use Rattle.wasm_ast.specs.View.{op_of}
use Rattle.validator.proofs.CountLemmas.{item_le_count}
use Rattle.validator.proofs.places.+past.Goals as goal

pub past_instrs-past_instr-requires : goal.past_instrs-past_instr-requires
past_instrs-past_instr-requires t c =
    let fits =
    item_le_count c.args.instrs.now c.loop-instr.instr-index c.instr-item.result c.loop-instr-test.true in
    let item = ap (λ (i : Instr). count (op_of i)) c.instr-item.is in
    (omega (arith, fits, item), tt)
