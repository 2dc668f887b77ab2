use Rattle.std.proofs.Common.{◌≡◌, ◌-◌, ◌++◌, length, take, reverse, ap, drop, true, false, sym, ◌∙◌, arith}
use Rattle.std.proofs.lemmas.List.{length-drop}
use Rattle.wasm_ast.specs.Types.{are_same_types}
use Rattle.validator.specs.Inside.Algorithm.{pops, knowns}
use Rattle.validator.proofs.GroupLemmas.{split_taken, split_refused}
use Rattle.validator.proofs.groups.take_known.Goals as goal

pub returns-then-is_same_from-clause-some : goal.returns-then-is_same_from-clause-some
returns-then-is_same_from-clause-some c = λ unreachable others.
    let types = c.args.types.now in
    let known = c.args.known.now in
    let wanted = c.len-3.result - c.min-count.result in
    let left = c.len-4.result - c.min-count.result in
    let same : are_same_types (drop wanted types) (drop left known) ≡ true =
    sym c.is_same_from.ensures ∙ c.if-is_same_from.true in
    split_taken unreachable types known wanted left others same
    ∙ ap (λ ts. pops unreachable (reverse (take wanted types)) (knowns (reverse ts) ++ others)) (sym c.first.ensures)

pub returns-else-is_same_from-clause-none : goal.returns-else-is_same_from-clause-none
returns-else-is_same_from-clause-none c = λ none unreachable others.
    let types = c.args.types.now in
    let known = c.args.known.now in
    let wanted = c.len-3.result - c.min-count.result in
    let left = c.len-4.result - c.min-count.result in
    let differ : are_same_types (drop wanted types) (drop left known) ≡ false =
    sym c.is_same_from.ensures ∙ c.if-is_same_from.false in
    let count : length (drop wanted types) ≡ length (drop left known) =
    omega (
      arith,
      length-drop wanted types,
      length-drop left known,
      c.min-count.ensures,
      c.len.ensures,
      c.len-2.ensures,
      c.len-3.ensures,
      c.len-4.ensures,
    ) in
    split_refused unreachable types known wanted left others count differ
