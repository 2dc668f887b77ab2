use Rattle.std.proofs.Common.{List, ℕ, All, map, take, subst, sym, ◌∙◌}
use Rattle.wasm_ast.specs.declared.module.Export.{Export}
use Rattle.validator.specs.Typing.{AllDifferent}
use Rattle.validator.proofs.ExportNames.{Seen, Among, different_push, unlike, seen_push, among_push, nothing_there, something_there, one_more, there_twice}
use Rattle.validator.proofs.validation.names_differ.Goals as goal

pub loop-export-preserved : goal.loop-export-preserved
loop-export-preserved c =
    let i = c.loop-export.export-index in
    let b = c.as_str.result.now in
    let names : List (List ℕ) = map (λ (x : Export). x.name) (take i c.args.exports.now) in
    let more =
    one_more c.args.exports.now i c.export-item.result b c.loop-export-test.true c.export-item.is c.as_str.ensures
    in
    let old = c.in_ok-insert.ensures.old in
    let none = nothing_there c.in_ok-insert.field-0 (sym c.is_some.ensures ∙ c.if-is_some.false) in
    record {
      differ =
          subst AllDifferent (sym more)
          (different_push names b c.loop-export.invariant.differ
          (unlike c.loop-export.seen names b c.loop-export.invariant.keys (sym old ∙ none)));
      known =
          λ x h. subst (λ (ns : List (List ℕ)). Among ns x) (sym more)
          (among_push c.loop-export.seen c.insert.new.self names b c.loop-export.invariant.known
          c.in_ok-insert.ensures.updates x h);
      keys =
          subst (All (Seen c.insert.new.self)) (sym more)
          (seen_push c.loop-export.seen c.insert.new.self names b c.loop-export.invariant.keys
          c.in_ok-insert.ensures.updates);
    }

pub returns-then-is_some-clause-invalid : goal.returns-then-is_some-clause-invalid
returns-then-is_some-clause-invalid c = λ _ differ.
    let i = c.loop-export.export-index in
    let b = c.as_str.result.now in
    let some = something_there c.in_ok-insert.field-0 (sym c.is_some.ensures ∙ c.if-is_some.true) in
    let known = c.loop-export.invariant.known b (sym c.in_ok-insert.ensures.old ∙ some) in
    there_twice c.args.exports.now i c.export-item.result b c.loop-export-test.true c.export-item.is
    c.as_str.ensures known differ
