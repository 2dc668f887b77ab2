use Rattle.std.proofs.Common.{◌≡◌, ◌<◌, ◌-◌, ◌++◌, length, reverse, take, drop, Some, ap, sym, ◌∙◌, arith, rules}
use Rattle.validator.specs.Inside.Algorithm.{pop_any, knowns}
use Rattle.validator.specs.Inside.Blocks.{Blocks, types_of}
use Rattle.validator.proofs.GroupLemmas.{with_last, top_types, last_types}
use Rattle.validator.proofs.operands.Operands.pop_any.Goals as goal

pub returns-then-height-self-clause-some : goal.returns-then-height-self-clause-some
returns-then-height-self-clause-some c =
    let items = c.self.inside.groups.items in
    let base = c.self.inside.base in
    let group = c.index-group.result.now in
    let count : c.len-height.result ≡ length items = search rules in
    let some : base < c.len-height.result = c.if-height-self.true in
    let whole = with_last items c.len-height.result group (omega (arith, some)) count c.index-group.ensures in
    let within : base < length items = omega (arith, some, count) in
    let before = types_of (drop base (take (length items - 1) items)) in
    let old = sym (ap (λ (o : Blocks). o.stack.types) c.self.view_is) ∙ top_types items base group within whole in
    let new =
    last_types c.copy-below.result items c.leave_of_last.new.groups.items base within c.leave_of_last.ensures in
    ap (pop_any c.args.self.now.stack.unreachable) old
    ∙ ap (λ types. Some (group.newest, types))
    (sym (new ∙ ap (λ ts. knowns (reverse ts) ++ before) c.copy-below.ensures))
