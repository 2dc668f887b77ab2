use Rattle.std.proofs.Common.{◌++◌, ◌∙◌, ap, arith}
use Rattle.wasm_ast.specs.declared.instr.Arms.{Arms}
use Rattle.wasm_ast.specs.declared.instr.Instr.{Instr}
use Rattle.wasm_ast.specs.Syntax.{Ops, count, ops_count}
use Rattle.wasm_ast.specs.View.{op_of}
use Rattle.wasm_binary.specs.Canonical.{canon_op}
use Rattle.wasm_binary.proofs.WriteInstrs.{item_le_count, instr_step}
use Rattle.wasm_binary.proofs.write_code.+put.Goals as goal

pub put_body-put_instr-requires : goal.put_body-put_instr-requires
put_body-put_instr-requires t c =
    let fits =
    item_le_count c.as_slice-instr-items.result.now c.loop-instr.instr-index c.instr-item.result
    c.loop-instr-test.true in
    let item = ap (λ (i : Instr). count (op_of i)) c.instr-item.is in
    let same = ap (λ (os : Ops). ops_count os) c.loop-instr.invariant.same in
    (omega (arith, fits, item, same), tt)

pub put_body-loop-instr-preserved : goal.put_body-loop-instr-preserved
put_body-loop-instr-preserved t c = record {
  same = c.loop-instr.invariant.same;
  put =
      instr_step c.as_slice-instr-items.result.now c.loop-instr.instr-index c.instr-item.result c.args.out.now.items
      c.loop-instr.out.items c.put_instr.new.out.items c.loop-instr-test.true c.loop-instr.invariant.put
      (c.in_ok-put_instr.ensures ∙ ap (λ (i : Instr). c.loop-instr.out.items ++ canon_op (op_of i)) c.instr-item.is);
}

pub put_instr-put_body-requires : goal.put_instr-put_body-requires
put_instr-put_body-requires t c =
    let e = ap (λ (i : Instr). count (op_of i)) c.in-Block.is in
    let d = ap (λ (os : Ops). ops_count os) c.deref.ensures in
    (omega (arith, e, d), tt)

pub put_instr-put_body-requires-in-Loop : goal.put_instr-put_body-requires-in-Loop
put_instr-put_body-requires-in-Loop t c =
    let e = ap (λ (i : Instr). count (op_of i)) c.in-Loop.is in
    let d = ap (λ (os : Ops). ops_count os) c.deref-in-Loop.ensures in
    (omega (arith, e, d), tt)

pub put_instr-put_body-requires-in-If : goal.put_instr-put_body-requires-in-If
put_instr-put_body-requires-in-If t c =
    let e = ap (λ (i : Instr). count (op_of i)) c.in-If.is in
    let d = ap (λ (arms : Arms). ops_count arms.then_arm) c.deref-in-If.ensures in
    (omega (arith, e, d), tt)

pub put_instr-put_body-requires-in-If-2 : goal.put_instr-put_body-requires-in-If-2
put_instr-put_body-requires-in-If-2 t c =
    let e = ap (λ (i : Instr). count (op_of i)) c.in-If.is in
    let d = ap (λ (arms : Arms). ops_count arms.else_arm) c.deref-in-If.ensures in
    (omega (arith, e, d), tt)
