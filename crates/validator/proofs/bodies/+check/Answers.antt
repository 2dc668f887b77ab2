use Rattle.std.proofs.Common.{Err, List, Option, ap, sym, subst, arith}
use Rattle.wasm_ast.specs.declared.values.ValType.{ValType}
use Rattle.wasm_ast.specs.declared.instr.Instr.{Instr}
use Rattle.wasm_ast.specs.Syntax.{Ops, count, ops_count}
use Rattle.wasm_ast.specs.View.{op_of}
use Rattle.validator.specs.Inside.Blocks.{IsOuter}
use Rattle.validator.specs.declared.check_error.BodyError.TheVariants.{Invalid}
use Rattle.validator.proofs.CountLemmas.{item_le_count, before_le_count, later_place, err_same}
use Rattle.validator.proofs.bodies.+check.Goals as goal

pub check_instrs-check_instr-requires : goal.check_instrs-check_instr-requires
check_instrs-check_instr-requires t c =
    let fits =
    item_le_count c.as_slice-instrs.result.now c.loop-i.i c.index-instrs-i.result c.loop-i-test.true in
    let item = ap (λ (i : Instr). count (op_of i)) c.index-instrs-i.is in
    let same = ap (λ (os : Ops). ops_count os) c.loop-i.invariant.same in
    (omega (arith, fits, item, same), tt)

pub check_instrs-returns-in-Err-clause-place : goal.check_instrs-returns-in-Err-clause-place
check_instrs-returns-in-Err-clause-place t c at is =
    let fits =
    before_le_count c.as_slice-instrs.result.now c.loop-i.i c.index-instrs-i.result c.loop-i-test.true in
    let item = ap (λ (i : Instr). count (op_of i)) c.index-instrs-i.is in
    let same = ap (λ (os : Ops). ops_count os) c.loop-i.invariant.same in
    let counted = c.count_instrs.ensures in
    let later =
    later_place c.count_instrs.result _ c.in-Err.error c.later.result at c.later.ensures
    (err_same c.later.result (Invalid at) is)
    (λ k e. c.in-Err.ensures.place k (ap Err e)) in
    omega (arith, fits, item, same, counted, later)

pub check_body-returns-clause-operands : goal.check_body-returns-clause-operands
check_body-returns-clause-operands t c = λ passes.
    let same = c.in_ok-check_instrs.ensures.ok.1 in
    c.close.ensures.operands passes c.args.operands.now
    (subst
    (λ (groups : List (List (Option ValType))). IsOuter c.in_ok-outer.outer c.args.operands.now groups) (sym same)
    c.in_ok-outer.ensures.outer)
