use Rattle.std.proofs.Common.{◌+◌, ◌++◌, string_bytes, map, drop, sym, ap, ◌∙◌, subst, arith}
use Rattle.wasm_ast.specs.declared.instr.Instr.{Instr}
use Rattle.wasm_ast.specs.Syntax.{Ops, count, ops_count, ops_of}
use Rattle.wasm_ast.specs.View.{op_of}
use Rattle.file_commands.specs.Checked.{ops_lines}
use Rattle.file_commands.specs.Inside.Written.{OpAligned, OpsAligned}
use Rattle.file_commands.proofs.ListLemmas.{item_aligned, item_le_count, rest_of, one_more}
use Rattle.file_commands.proofs.check.+push.Goals as goal

pub push_body-push_instr-requires : goal.push_body-push_instr-requires
push_body-push_instr-requires t c =
    let items = c.as_slice-instr-items.result.now in
    let n = c.loop-instr.instr-index in
    let fits = item_le_count items n c.instr-item.result c.loop-instr-test.true in
    let item = ap (λ (i : Instr). count (op_of i)) c.instr-item.is in
    let same = ap (λ (os : Ops). ops_count os) c.loop-instr.invariant.same in
    let all : OpsAligned (ops_of (map op_of items)) = subst OpsAligned (sym c.loop-instr.invariant.same) c.requires in
    let its =
    subst (λ (i : Instr). OpAligned (op_of i)) (sym c.instr-item.is)
    (item_aligned items n c.instr-item.result c.loop-instr-test.true all) in
    (omega (arith, fits, item, same), its)

pub push_body-loop-instr-preserved : goal.push_body-loop-instr-preserved
push_body-loop-instr-preserved t c =
    let items = c.as_slice-instr-items.result.now in
    let n = c.loop-instr.instr-index in
    let i = c.instr-item.result in
    let func = c.args.func in
    let here = c.loop-instr.here in
    let rest = ops_of (map op_of (drop (n + 1) items)) in
    let split = rest_of items n i c.loop-instr-test.true c.instr-item.is in
    let total = ap (λ (os : Ops). ops_count os) split in
    let place = c.in_ok-here.ensures.place in
    let list = string_bytes c.loop-instr.list in
    let so_far = ap (λ (os : Ops). list ++ ops_lines func here os) (sym split) ∙ c.loop-instr.invariant.lines in
    record {
      same = c.loop-instr.invariant.same;
      place = omega (arith, place, total, c.loop-instr.invariant.place);
      lines =
          one_more func here c.in_ok-here.here (op_of i) rest list (string_bytes c.push_instr.new.list)
          (string_bytes c.args.list.now ++ ops_lines func c.args.place c.args.body.now) place
          c.in_ok-here.ensures.lines so_far;
    }
