use Rattle.std.proofs.Common.{◌≡◌, suc, ◌+◌, List, ◌∷◌, refl, ap, sym, subst, ◌∙◌, arith, rules, map, drop, Some}
use Rattle.std.proofs.lemmas.Result.{on_ok_weaker}
use Rattle.wasm_ast.specs.declared.values.ValType.{ValType}
use Rattle.wasm_ast.specs.declared.instr.Arms.{Arms}
use Rattle.wasm_ast.specs.declared.instr.Instr.{Instr}
use Rattle.wasm_ast.specs.Syntax.{Op, Ops, block, loop, if', count, ops_count, ops_of}
use Rattle.wasm_ast.specs.View.{op_of}
use Rattle.validator.specs.Inside.Algorithm.{after_i32, start, check_op}
use Rattle.validator.specs.Inside.FunctionContext.{context_of, func_type_of}
use Rattle.validator.specs.Inside.PlaceWalk.{below, ops_known, op_known}
use Rattle.validator.specs.Inside.EachPlace.{Follows, stacks_of}
use Rattle.validator.proofs.CountLemmas.{item_le_count}
use Rattle.validator.proofs.PlaceExact.{known_in_if}
use Rattle.validator.proofs.EachLemmas.{finds_inside, known_in_block, known_in_loop, finds_same, finds_arms, if_opens, left_is, follows_first, follows_others, checked_others}
use Rattle.validator.proofs.each_place.+each.Goals as goal

pub each_in-each_instr-requires : goal.each_in-each_instr-requires
each_in-each_instr-requires t c =
    let fits =
    item_le_count c.as_slice-instr-items.result.now c.loop-instr.instr-index c.instr-item.result
    c.loop-instr-test.true in
    let item = ap (λ (i : Instr). count (op_of i)) c.instr-item.is in
    let same = ap (λ (os : Ops). ops_count os) c.loop-instr.invariant.same in
    (omega (arith, fits, item, same), (c.requires.rising, c.loop-instr.invariant.from))

pub each_in-returns-in_default-clause-found : goal.each_in-returns-in_default-clause-found
each_in-returns-in_default-clause-found t c = λ all follows before.
    let items = c.as_slice-instr-items.result.now in
    let k = c.loop-instr.instr-index in
    let i = c.instr-item.result in
    let f = c.args.stops.now.function in
    let os = ops_of (map op_of (drop (k + 1) items)) in
    let labels = c.args.opened.now.labels in
    let outer = c.args.opened.now.outer.items in
    let o = c.loop-instr.opened.operands in
    let found =
    c.loop-instr.invariant.finds all
    (subst (λ (xs : Ops). Follows all c.args.first (ops_count xs)
    (ops_known (context_of f labels) (stacks_of outer) xs c.args.opened.now.operands.stack))
    (sym c.loop-instr.invariant.same) follows) before in
    let finds =
    finds_same
    (λ labels o outer. op_known (context_of f labels) (stacks_of outer) (op_of i) o.stack) labels
    c.loop-instr.opened.labels o o outer c.loop-instr.opened.outer.items (count (op_of i)) c.loop-instr.next
    c.args.stops.now.places.now c.loop-instr.found.items c.each_instr.new.found.items c.loop-instr.invariant.labels refl
    c.loop-instr.invariant.outer c.in_ok-after.ensures.found in
    finds all
    (follows_first (context_of f labels) (stacks_of outer) (op_of i) os (ops_of (map op_of (drop k items))) o.stack all
    c.loop-instr.next (left_is items k i c.loop-instr-test.true c.instr-item.is) found.0)
    found.1

pub each_in-loop-instr-preserved : goal.each_in-loop-instr-preserved
each_in-loop-instr-preserved t c =
    let items = c.as_slice-instr-items.result.now in
    let k = c.loop-instr.instr-index in
    let i = c.instr-item.result in
    let f = c.args.stops.now.function in
    let os = ops_of (map op_of (drop (k + 1) items)) in
    let labels = c.args.opened.now.labels in
    let outer = c.args.opened.now.outer.items in
    let o = c.loop-instr.opened.operands in
    let finds =
    finds_same
    (λ labels o outer. op_known (context_of f labels) (stacks_of outer) (op_of i) o.stack) labels
    c.loop-instr.opened.labels o o outer c.loop-instr.opened.outer.items (count (op_of i)) c.loop-instr.next
    c.args.stops.now.places.now c.loop-instr.found.items c.each_instr.new.found.items c.loop-instr.invariant.labels refl
    c.loop-instr.invariant.outer c.in_ok-after.ensures.found in
    let left = left_is items k i c.loop-instr-test.true c.instr-item.is in
    let counted : ops_count (ops_of (map op_of (drop k items))) ≡ count (op_of i) + ops_count os =
    ap (λ (xs : Ops). ops_count xs) left in
    let after : c.in-Some.after ≡ c.loop-instr.next + count (op_of i) = search rules in
    let same_labels : c.each_instr.new.opened.labels ≡ labels = search rules in
    let same_outer : c.each_instr.new.opened.outer.items ≡ outer = search rules in
    let same_outside : c.each_instr.new.opened.operands.outside ≡ c.args.opened.now.operands.outside = search rules in
    let leads :
    check_op (context_of f c.loop-instr.opened.labels) (op_of i) o.stack ≡ Some c.each_instr.new.opened.operands.stack =
    search rules in
    let leads_here : check_op (context_of f labels) (op_of i) o.stack ≡ Some c.each_instr.new.opened.operands.stack =
    subst (λ (x : List (List ValType)). check_op (context_of f x) (op_of i) o.stack
    ≡ Some c.each_instr.new.opened.operands.stack) c.loop-instr.invariant.labels leads in
    record {
      same = c.loop-instr.invariant.same;
      labels = same_labels;
      outer = same_outer;
      outside = same_outside;
      next = omega (arith, counted, after, c.loop-instr.invariant.next);
      from = search rules;
      rest = checked_others (context_of f labels) (op_of i) os (ops_of (map op_of (drop k items))) o.stack
          c.each_instr.new.opened.operands.stack left leads_here ∙ c.loop-instr.invariant.rest;
      finds = λ all follows before.
          let found = c.loop-instr.invariant.finds all follows before in (
            follows_others (context_of f labels) (stacks_of outer) (op_of i) os (ops_of (map op_of (drop k items)))
                o.stack c.each_instr.new.opened.operands.stack all c.loop-instr.next c.in-Some.after left
                after leads_here
                found.0,
            finds all
                (follows_first (context_of f labels) (stacks_of outer) (op_of i) os
                (ops_of (map op_of (drop k items))) o.stack all c.loop-instr.next left found.0)
                found.1,
          );
    }

pub each_in-returns-clause-found : goal.each_in-returns-clause-found
each_in-returns-clause-found t c = λ all follows before.
    let f = c.args.stops.now.function in
    (c.loop-instr.invariant.finds all
    (subst (λ (xs : Ops). Follows all c.args.first (ops_count xs)
    (ops_known (context_of f c.args.opened.now.labels) (stacks_of c.args.opened.now.outer.items) xs
    c.args.opened.now.operands.stack)) (sym c.loop-instr.invariant.same) follows) before).1

pub each_instr-returns-in-Some-block_types-clause-found :
    goal.each_instr-returns-in-Some-block_types-clause-found
each_instr-returns-in-Some-block_types-clause-found t c =
    let types = func_type_of c.in-Some-block_types.types in
    let is : op_of c.args.instr.now ≡ block c.in-Block.kind c.deref.result.now =
    ap op_of c.in-Block.is ∙ ap (λ (os : Ops). block c.in-Block.kind os) (sym c.deref.ensures) in
    let after : c.in-Some.inside ≡ c.args.number + 1 = search rules in
    on_ok_weaker c.each_block.result
    (finds_inside (context_of c.args.stops.now.function c.args.opened.now.labels)
    (stacks_of c.args.opened.now.outer.items) (op_of c.args.instr.now) c.args.opened.now.operands.stack
    c.args.stops.now.places.now c.args.found.now.items c.stop_here.new.found.items c.each_block.new.found.items
    c.args.number c.in-Some.inside (ops_count c.deref.result.now) _ after (ap (λ (o : Op). count o) is)
    c.in_ok-inside.ensures.found
    (known_in_block (context_of c.args.stops.now.function c.args.opened.now.labels)
    (stacks_of c.args.opened.now.outer.items) (op_of c.args.instr.now) c.args.opened.now.operands.stack c.in-Block.kind
    c.deref.result.now types is c.in-Some-block_types.ensures))
    c.each_block.ensures.found

pub each_instr-returns-in-Some-block_types-2-clause-found :
    goal.each_instr-returns-in-Some-block_types-2-clause-found
each_instr-returns-in-Some-block_types-2-clause-found t c =
    let types = func_type_of c.in-Some-block_types-2.types in
    let is : op_of c.args.instr.now ≡ loop c.in-Loop.kind c.deref-in-Loop.result.now =
    ap op_of c.in-Loop.is ∙ ap (λ (os : Ops). loop c.in-Loop.kind os) (sym c.deref-in-Loop.ensures) in
    let after : c.in-Some.inside ≡ c.args.number + 1 = search rules in
    on_ok_weaker c.each_block-in-Loop.result
    (finds_inside (context_of c.args.stops.now.function c.args.opened.now.labels)
    (stacks_of c.args.opened.now.outer.items) (op_of c.args.instr.now) c.args.opened.now.operands.stack
    c.args.stops.now.places.now c.args.found.now.items c.stop_here.new.found.items c.each_block-in-Loop.new.found.items
    c.args.number c.in-Some.inside (ops_count c.deref-in-Loop.result.now) _ after (ap (λ (o : Op). count o) is)
    c.in_ok-inside.ensures.found
    (known_in_loop (context_of c.args.stops.now.function c.args.opened.now.labels)
    (stacks_of c.args.opened.now.outer.items) (op_of c.args.instr.now) c.args.opened.now.operands.stack c.in-Loop.kind
    c.deref-in-Loop.result.now types is c.in-Some-block_types-2.ensures))
    c.each_block-in-Loop.ensures.found

pub each_instr-returns-in-Some-block_types-3-clause-found :
    goal.each_instr-returns-in-Some-block_types-3-clause-found
each_instr-returns-in-Some-block_types-3-clause-found t c =
    let arms = c.deref-in-If.result.now in
    let types = func_type_of c.in-Some-block_types-3.types in
    let is : op_of c.args.instr.now ≡ if' c.in-If.kind arms.then_arm arms.else_arm =
    ap op_of c.in-If.is
    ∙ ap (λ (a : Arms). if' c.in-If.kind a.then_arm a.else_arm) (sym c.deref-in-If.ensures) in
    let after : c.in-Some.inside ≡ c.args.number + 1 = search rules in
    let counted : count (op_of c.args.instr.now) ≡ 1 + ops_count arms.then_arm + ops_count arms.else_arm =
    ap (λ (o : Op). count o) is in
    on_ok_weaker c.each_if.result
    (finds_inside (context_of c.args.stops.now.function c.args.opened.now.labels)
    (stacks_of c.args.opened.now.outer.items) (op_of c.args.instr.now) c.args.opened.now.operands.stack
    c.args.stops.now.places.now c.args.found.now.items c.stop_here.new.found.items c.each_if.new.found.items
    c.args.number c.in-Some.inside (ops_count arms.then_arm + ops_count arms.else_arm) _ after
    (omega (arith, counted)) c.in_ok-inside.ensures.found
    (λ k. known_in_if (context_of c.args.stops.now.function c.args.opened.now.labels)
    (stacks_of c.args.opened.now.outer.items) (op_of c.args.instr.now) c.args.opened.now.operands.stack (suc k) k
    c.in-If.kind arms.then_arm arms.else_arm types (omega arith) (omega arith) is
    c.in-Some-block_types-3.ensures))
    c.each_if.ensures.found

pub each_if-returns-in_default-2-clause-found : goal.each_if-returns-in_default-2-clause-found
each_if-returns-in_default-2-clause-found t c =
    let types = func_type_of c.args.types.now in
    let f = c.args.stops.now.function in
    let opened = c.args.opened.now in
    let u = c.pop_all.new.self in
    let labels : c.each_arm.new.opened.labels ≡ opened.labels = search rules in
    let operands : c.each_arm.new.opened.operands ≡ u = search rules in
    let outer : c.each_arm.new.opened.outer.items ≡ opened.outer.items = search rules in
    let between : c.in-Some.between ≡ c.args.first + ops_count c.args.then_arm.now = search rules in
    let opens =
    if_opens types opened.operands c.pop.new.self u c.if-not-pop.ensures.takes c.if-not-pop.ensures.rest
    c.if-not-pop_all.ensures.takes c.if-not-pop_all.ensures.rest in
    finds_arms c.args.stops.now.places.now c.args.found.now.items c.each_arm.new.found.items
    c.each_arm-2.new.found.items c.args.first c.in-Some.between (ops_count c.args.then_arm.now)
    (ops_count c.args.else_arm.now) (after_i32 (below types) opened.operands.stack) u.stack
    (λ u k. ops_known (context_of f (types.results ∷ opened.labels)) (u ∷ stacks_of opened.outer.items)
    c.args.then_arm.now (start types.params) k)
    (λ u k. ops_known (context_of f (types.results ∷ opened.labels)) (u ∷ stacks_of opened.outer.items)
    c.args.else_arm.now (start types.params) k) opens between c.in_ok-between.ensures.found
    (finds_same
    (λ labels o outer. ops_known (context_of f (types.results ∷ labels)) (o.stack ∷ stacks_of outer)
    c.args.else_arm.now (start types.params)) opened.labels c.each_arm.new.opened.labels u
    c.each_arm.new.opened.operands opened.outer.items c.each_arm.new.opened.outer.items
    (ops_count c.args.else_arm.now) c.in-Some.between c.args.stops.now.places.now c.each_arm.new.found.items
    c.each_arm-2.new.found.items labels operands outer c.in_ok-after.ensures.found)

pub each_if-returns-clause-found : goal.each_if-returns-clause-found
each_if-returns-clause-found t c =
    let types = func_type_of c.args.types.now in
    let f = c.args.stops.now.function in
    let opened = c.args.opened.now in
    let u = c.pop_all.new.self in
    let labels : c.each_arm.new.opened.labels ≡ opened.labels = search rules in
    let operands : c.each_arm.new.opened.operands ≡ u = search rules in
    let outer : c.each_arm.new.opened.outer.items ≡ opened.outer.items = search rules in
    let between : c.in-Some.between ≡ c.args.first + ops_count c.args.then_arm.now = search rules in
    let opens =
    if_opens types opened.operands c.pop.new.self u c.if-not-pop.ensures.takes c.if-not-pop.ensures.rest
    c.if-not-pop_all.ensures.takes c.if-not-pop_all.ensures.rest in
    finds_arms c.args.stops.now.places.now c.args.found.now.items c.each_arm.new.found.items
    c.each_arm-2.new.found.items c.args.first c.in-Some.between (ops_count c.args.then_arm.now)
    (ops_count c.args.else_arm.now) (after_i32 (below types) opened.operands.stack) u.stack
    (λ u k. ops_known (context_of f (types.results ∷ opened.labels)) (u ∷ stacks_of opened.outer.items)
    c.args.then_arm.now (start types.params) k)
    (λ u k. ops_known (context_of f (types.results ∷ opened.labels)) (u ∷ stacks_of opened.outer.items)
    c.args.else_arm.now (start types.params) k) opens between c.in_ok-between.ensures.found
    (finds_same
    (λ labels o outer. ops_known (context_of f (types.results ∷ labels)) (o.stack ∷ stacks_of outer)
    c.args.else_arm.now (start types.params)) opened.labels c.each_arm.new.opened.labels u
    c.each_arm.new.opened.operands opened.outer.items c.each_arm.new.opened.outer.items
    (ops_count c.args.else_arm.now) c.in-Some.between c.args.stops.now.places.now c.each_arm.new.found.items
    c.each_arm-2.new.found.items labels operands outer c.in_ok-after.ensures.found)
