use Rattle.std.proofs.Common.{ap, arith}
use Rattle.wasm_ast.specs.declared.instr.Instr.{Instr}
use Rattle.wasm_ast.specs.Syntax.{Ops, count, ops_count}
use Rattle.wasm_ast.specs.View.{op_of}
use Rattle.validator.proofs.CountLemmas.{item_le_count}
use Rattle.validator.proofs.walk.walk_to.Goals as goal

pub returns-in_default-clause-inside : goal.returns-in_default-clause-inside
returns-in_default-clause-inside c =
    let fits =
    item_le_count c.as_slice-instr-items.result.now c.loop-instr.instr-index c.instr-item.result
    c.loop-instr-test.true in
    let item = ap (λ (i : Instr). count (op_of i)) c.instr-item.is in
    let same = ap (λ (os : Ops). ops_count os) c.loop-instr.invariant.same in
    omega (arith, fits, item, same)
