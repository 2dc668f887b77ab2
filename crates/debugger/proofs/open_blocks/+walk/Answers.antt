use Rattle.std.proofs.Common.{◌≡◌, ◌+◌, ◌∷◌, map, drop, reverse, ap, sym, ◌∙◌, subst, arith, rules}
use Rattle.std.proofs.lemmas.Result.{on_ok_weaker}
use Rattle.wasm_ast.specs.declared.instr.Arms.{Arms}
use Rattle.wasm_ast.specs.declared.instr.Instr.{Instr}
use Rattle.wasm_ast.specs.Syntax.{Op, Ops, block, loop, if', count, ops_count, ops_of}
use Rattle.wasm_ast.specs.View.{op_of}
use Rattle.validator.specs.Inside.EachPlace.{Follows}
use Rattle.validator.proofs.CountLemmas.{item_le_count}
use Rattle.validator.proofs.EachLemmas.{left_is}
use Rattle.step_machine.specs.Places.{op_opens, opens_at}
use Rattle.debugger.specs.Inside.OpenBlocks.{arm_opens}
use Rattle.debugger.proofs.OpenLemmas.{finds_inside, opens_in_block, opens_in_loop, opens_in_if, finds_arms, follows_first, follows_others, finds_with}
use Rattle.debugger.proofs.open_blocks.+walk.Goals as goal

pub walk_body-walk_instr-requires : goal.walk_body-walk_instr-requires
walk_body-walk_instr-requires t c =
    let fits =
    item_le_count c.as_slice-instr-items.result.now c.loop-instr.instr-index c.instr-item.result
    c.loop-instr-test.true in
    let item = ap (λ (i : Instr). count (op_of i)) c.instr-item.is in
    let same = ap (λ (os : Ops). ops_count os) c.loop-instr.invariant.same in
    (omega (arith, fits, item, same), (c.requires.rising, c.loop-instr.invariant.from))

pub walk_body-returns-in_default-clause-found : goal.walk_body-returns-in_default-clause-found
walk_body-returns-in_default-clause-found t c = λ all follows before.
    let items = c.as_slice-instr-items.result.now in
    let k = c.loop-instr.instr-index in
    let i = c.instr-item.result in
    let outer = reverse c.args.blocks.now.items in
    let found =
    c.loop-instr.invariant.finds all
    (subst (λ (xs : Ops). Follows all c.args.first (ops_count xs) (opens_at xs c.args.first outer))
    (sym c.loop-instr.invariant.same) follows) before in
    finds_with (λ blocks. op_opens (op_of i) c.loop-instr.next (reverse blocks)) c.args.blocks.now.items
    c.loop-instr.blocks.items (count (op_of i)) c.loop-instr.next c.args.stops.now.places.now c.loop-instr.found.items
    c.walk_instr.new.found.items c.loop-instr.invariant.blocks c.in_ok-after.ensures.found all
    (follows_first (op_of i) (ops_of (map op_of (drop (k + 1) items))) (ops_of (map op_of (drop k items)))
    c.loop-instr.next outer all (left_is items k i c.loop-instr-test.true c.instr-item.is) found.0)
    found.1

pub walk_body-loop-instr-preserved : goal.walk_body-loop-instr-preserved
walk_body-loop-instr-preserved t c =
    let items = c.as_slice-instr-items.result.now in
    let k = c.loop-instr.instr-index in
    let i = c.instr-item.result in
    let os = ops_of (map op_of (drop (k + 1) items)) in
    let outer = reverse c.args.blocks.now.items in
    let left = left_is items k i c.loop-instr-test.true c.instr-item.is in
    let counted : ops_count (ops_of (map op_of (drop k items))) ≡ count (op_of i) + ops_count os =
    ap (λ (xs : Ops). ops_count xs) left in
    let after : c.in-Some.after ≡ c.loop-instr.next + count (op_of i) = search rules in
    let blocks : c.walk_instr.new.blocks.items ≡ c.args.blocks.now.items = search rules in
    record {
      same = c.loop-instr.invariant.same;
      blocks = blocks;
      next = omega (arith, counted, after, c.loop-instr.invariant.next);
      from = search rules;
      finds = λ all follows before.
          let found = c.loop-instr.invariant.finds all follows before in (
            follows_others (op_of i) os (ops_of (map op_of (drop k items))) c.loop-instr.next c.in-Some.after outer all
                left after found.0,
            finds_with (λ blocks. op_opens (op_of i) c.loop-instr.next (reverse blocks)) c.args.blocks.now.items
                c.loop-instr.blocks.items (count (op_of i)) c.loop-instr.next c.args.stops.now.places.now
                c.loop-instr.found.items c.walk_instr.new.found.items c.loop-instr.invariant.blocks
                c.in_ok-after.ensures.found all
                (follows_first (op_of i) os (ops_of (map op_of (drop k items))) c.loop-instr.next outer
                all left found.0)
                found.1,
          );
    }

pub walk_body-returns-clause-found : goal.walk_body-returns-clause-found
walk_body-returns-clause-found t c = λ all follows before.
    (c.loop-instr.invariant.finds all
    (subst (λ (xs : Ops). Follows all c.args.first (ops_count xs)
    (opens_at xs c.args.first (reverse c.args.blocks.now.items))) (sym c.loop-instr.invariant.same) follows) before).1

pub walk_instr-returns-in-Block-clause-found : goal.walk_instr-returns-in-Block-clause-found
walk_instr-returns-in-Block-clause-found t c =
    let outer = reverse c.args.blocks.now.items in
    let is : op_of c.args.instr.now ≡ block c.in-Block.field-0 c.deref.result.now =
    ap op_of c.in-Block.is ∙ ap (λ (os : Ops). block c.in-Block.field-0 os) (sym c.deref.ensures) in
    let after : c.in-Some.inside ≡ c.args.number + 1 = search rules in
    on_ok_weaker c.walk_block.result
    (finds_inside (op_of c.args.instr.now) outer c.args.stops.now.places.now c.args.found.now.items
    c.stop_here.new.found.items c.walk_block.new.found.items c.args.number c.in-Some.inside
    (ops_count c.deref.result.now) (opens_at c.deref.result.now c.in-Some.inside (c.args.number ∷ outer)) after
    (ap (λ (o : Op). count o) is) c.in_ok-inside.ensures.found
    (opens_in_block (op_of c.args.instr.now) c.in-Block.field-0 c.deref.result.now c.args.number
    c.in-Some.inside outer is
    after)) c.walk_block.ensures.found

pub walk_instr-returns-in-Loop-clause-found : goal.walk_instr-returns-in-Loop-clause-found
walk_instr-returns-in-Loop-clause-found t c =
    let outer = reverse c.args.blocks.now.items in
    let is : op_of c.args.instr.now ≡ loop c.in-Loop.field-0 c.deref-in-Loop.result.now =
    ap op_of c.in-Loop.is ∙ ap (λ (os : Ops). loop c.in-Loop.field-0 os) (sym c.deref-in-Loop.ensures) in
    let after : c.in-Some.inside ≡ c.args.number + 1 = search rules in
    on_ok_weaker c.walk_block-in-Loop.result
    (finds_inside (op_of c.args.instr.now) outer c.args.stops.now.places.now c.args.found.now.items
    c.stop_here.new.found.items c.walk_block-in-Loop.new.found.items c.args.number c.in-Some.inside
    (ops_count c.deref-in-Loop.result.now)
    (opens_at c.deref-in-Loop.result.now c.in-Some.inside (c.args.number ∷ outer)) after
    (ap (λ (o : Op). count o) is) c.in_ok-inside.ensures.found
    (opens_in_loop (op_of c.args.instr.now) c.in-Loop.field-0 c.deref-in-Loop.result.now c.args.number
    c.in-Some.inside outer is
    after)) c.walk_block-in-Loop.ensures.found

pub walk_instr-returns-in-If-clause-found : goal.walk_instr-returns-in-If-clause-found
walk_instr-returns-in-If-clause-found t c =
    let arms = c.deref-in-If.result.now in
    let outer = reverse c.args.blocks.now.items in
    let is : op_of c.args.instr.now ≡ if' c.in-If.field-0 arms.then_arm arms.else_arm =
    ap op_of c.in-If.is
    ∙ ap (λ (a : Arms). if' c.in-If.field-0 a.then_arm a.else_arm) (sym c.deref-in-If.ensures) in
    let after : c.in-Some.inside ≡ c.args.number + 1 = search rules in
    let counted : count (op_of c.args.instr.now) ≡ 1 + ops_count arms.then_arm + ops_count arms.else_arm =
    ap (λ (o : Op). count o) is in
    on_ok_weaker c.walk_if.result
    (finds_inside (op_of c.args.instr.now) outer c.args.stops.now.places.now c.args.found.now.items
    c.stop_here.new.found.items c.walk_if.new.found.items c.args.number c.in-Some.inside
    (ops_count arms.then_arm + ops_count arms.else_arm)
    (arm_opens arms.then_arm arms.else_arm c.args.number c.in-Some.inside outer) after (omega (arith, counted))
    c.in_ok-inside.ensures.found
    (opens_in_if (op_of c.args.instr.now) c.in-If.field-0 arms.then_arm arms.else_arm c.args.number
    c.in-Some.inside outer is after)) c.walk_if.ensures.found

pub walk_if-returns-in_default-2-clause-found : goal.walk_if-returns-in_default-2-clause-found
walk_if-returns-in_default-2-clause-found t c =
    let same : c.walk_body.new.blocks.items ≡ c.push.new.self.items = search rules in
    let between : c.in-Some.between ≡ c.args.first + ops_count c.args.then_arm.now = search rules in
    finds_arms c.args.then_arm.now c.args.else_arm.now c.args.number c.args.first c.in-Some.between
    c.args.blocks.now.items c.push.new.self.items c.walk_body.new.blocks.items c.args.stops.now.places.now
    c.args.found.now.items c.walk_body.new.found.items c.walk_body-2.new.found.items c.in_ok-push.ensures.items same
    between c.in_ok-between.ensures.found c.in_ok-after.ensures.found

pub walk_if-returns-clause-found : goal.walk_if-returns-clause-found
walk_if-returns-clause-found t c =
    let same : c.walk_body.new.blocks.items ≡ c.push.new.self.items = search rules in
    let between : c.in-Some.between ≡ c.args.first + ops_count c.args.then_arm.now = search rules in
    finds_arms c.args.then_arm.now c.args.else_arm.now c.args.number c.args.first c.in-Some.between
    c.args.blocks.now.items c.push.new.self.items c.walk_body.new.blocks.items c.args.stops.now.places.now
    c.args.found.now.items c.walk_body.new.found.items c.walk_body-2.new.found.items c.in_ok-push.ensures.items same
    between c.in_ok-between.ensures.found c.in_ok-after.ensures.found
