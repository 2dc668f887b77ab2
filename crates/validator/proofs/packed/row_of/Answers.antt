use Rattle.std.proofs.Common.{◌*◌, drop, take, ap, sym, subst, ◌∙◌, rules}
use Rattle.std.proofs.lemmas.List.{length-append}
use Rattle.validator.specs.Inside.Packed.{packed, IsRow}
use Rattle.validator.proofs.PackedLemmas.{row_pushed}
use Rattle.validator.proofs.packed.row_of.Goals as goal

pub loop-i-preserved : goal.loop-i-preserved
loop-i-preserved c =
    let types = c.args.types.now in
    let row = c.loop-i.row.items in
    let items = c.in_ok-push.ensures.items in
    let next = ap (λ k. packed (take 8 (drop (8 * k) types))) (sym c.loop-i.invariant.count) in
    record {
      count = search (rules, length-append);
      row =
          subst (λ bytes. IsRow bytes types) (sym items)
          (row_pushed row c.byte.result types c.loop-i.invariant.row (c.byte.ensures ∙ next));
    }
