use Rattle.std.proofs.Common.{◌≡◌, ◌<◌, ◌≤◌, ◌-◌, length, reverse, take, drop, refl, ap, sym, ◌∙◌, arith, rules}
use Rattle.std.specs.Bool.{then_some}
use Rattle.std.proofs.lemmas.List.{drop_all}
use Rattle.validator.specs.Inside.Algorithm.{pops}
use Rattle.validator.specs.Inside.Blocks.{Blocks, types_of}
use Rattle.validator.proofs.OperandLemmas.{taken_at_once, never_at_once}
use Rattle.validator.proofs.GroupLemmas.{with_last, top_types, last_types}
use Rattle.validator.proofs.operands.Operands.pop_group.Goals as goal

pub returns-then-count-self-clause-some : goal.returns-then-count-self-clause-some
returns-then-count-self-clause-some c =
    let items = c.self.inside.groups.items in
    let base = c.self.inside.base in
    let count : c.len-count.result ≡ length items = search rules in
    let all : length items ≤ base = omega (arith, count, c.if-count-self.true) in
    let none = sym (ap (λ (o : Blocks). o.stack.types) c.self.view_is) ∙ ap types_of (drop_all base items all) in
    let same = ap (λ (o : Blocks). o.stack.unreachable) c.self.view_is in
    taken_at_once c.args.self.now.stack.unreachable c.args.types.now c.args.self.now.stack.types c.then_some.result none
    (c.then_some.ensures ∙ ap (λ b. then_some b 0) same)

pub returns-then-count-self-clause-none : goal.returns-then-count-self-clause-none
returns-then-count-self-clause-none c =
    let items = c.self.inside.groups.items in
    let base = c.self.inside.base in
    let count : c.len-count.result ≡ length items = search rules in
    let all : length items ≤ base = omega (arith, count, c.if-count-self.true) in
    let none = sym (ap (λ (o : Blocks). o.stack.types) c.self.view_is) ∙ ap types_of (drop_all base items all) in
    let same = ap (λ (o : Blocks). o.stack.unreachable) c.self.view_is in
    never_at_once c.args.self.now.stack.unreachable c.args.types.now c.args.self.now.stack.types c.then_some.result
    c.requires none (c.then_some.ensures ∙ ap (λ b. then_some b 0) same)

pub returns-in_err-remains-clause-none : goal.returns-in_err-remains-clause-none
returns-in_err-remains-clause-none c = λ none.
    let items = c.self.inside.groups.items in
    let base = c.self.inside.base in
    let group = c.index.result.now in
    let unreachable = c.args.self.now.stack.unreachable in
    let count : c.len-count.result ≡ length items = search rules in
    let within : base < length items = omega (arith, c.self.invariant, count, c.if-count-self.false) in
    let whole = with_last items c.len-count.result group (omega (arith, within, count)) count c.index.ensures in
    let before = types_of (drop base (take (length items - 1) items)) in
    let old = sym (ap (λ (o : Blocks). o.stack.types) c.self.view_is) ∙ top_types items base group within whole in
    ap (pops unreachable (reverse c.args.types.now)) old ∙ c.in_err-remains.ensures.none refl unreachable before

pub returns-clause-some : goal.returns-clause-some
returns-clause-some c =
    let items = c.self.inside.groups.items in
    let base = c.self.inside.base in
    let group = c.index.result.now in
    let remains = c.in_ok-remains.remains in
    let unreachable = c.args.self.now.stack.unreachable in
    let count : c.len-count.result ≡ length items = search rules in
    let within : base < length items = omega (arith, c.self.invariant, count, c.if-count-self.false) in
    let whole = with_last items c.len-count.result group (omega (arith, within, count)) count c.index.ensures in
    let before = types_of (drop base (take (length items - 1) items)) in
    let old = sym (ap (λ (o : Blocks). o.stack.types) c.self.view_is) ∙ top_types items base group within whole in
    let new = last_types remains.left items c.leave_of_last.new.groups.items base within c.leave_of_last.ensures in
    ap (pops unreachable (reverse c.args.types.now)) old
    ∙ (c.in_ok-remains.ensures.some unreachable before
    ∙ ap (pops unreachable (reverse (take remains.wanted c.args.types.now))) (sym new))
