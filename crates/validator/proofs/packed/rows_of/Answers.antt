use Rattle.std.proofs.Common.{◌++◌, [], ◌∷◌, drop, ap, sym, subst, ◌∙◌, rules}
use Rattle.std.proofs.lemmas.List.{length-append, take_rest}
use Rattle.validator.specs.Inside.Packed.{IsRow, AreRows}
use Rattle.validator.proofs.PackedLemmas.{rows_pushed}
use Rattle.validator.proofs.packed.rows_of.Goals as goal

pub loop-first-preserved : goal.loop-first-preserved
loop-first-preserved c =
    let types = c.args.types.now in
    let rows = c.loop-first.rows.items in
    record {
      count = search (rules, length-append);
      rows =
          subst (λ all. AreRows all types)
          (sym (c.in_ok-push.ensures.items ∙ ap (λ row. rows ++ (row ∷ [])) c.new-in-loop-first.ensures))
          (rows_pushed rows c.in_ok-row.row.items types c.loop-first.invariant.rows
          (subst (λ n. IsRow c.in_ok-row.row.items (drop n types)) (sym c.loop-first.invariant.count)
          (subst (IsRow c.in_ok-row.row.items) (take_rest types c.loop-first.first) c.in_ok-row.ensures)));
    }
