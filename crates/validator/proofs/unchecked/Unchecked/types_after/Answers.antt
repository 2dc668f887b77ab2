use Rattle.std.proofs.Common.{◌↔◌, List, Err, reverse, ap, subst, ◌∙◌}
use Rattle.wasm_ast.specs.declared.values.ValType.{ValType}
use Rattle.validator.specs.PlaceTypes.{Matches}
use Rattle.validator.specs.SequenceTypes.{LeadsIn}
use Rattle.validator.proofs.UncheckedTypes.{after_exact_there, after_none_there}
use Rattle.validator.proofs.unchecked.Unchecked.types_after.Goals as goal

pub returns-in-Ok : goal.returns-in-Ok
returns-in-Ok c =
    let f = c.in-Some.function in
    let a = c.args in
    record {
      exact =
          subst
          (λ (within : List (List ValType)). (new : List ValType)
          → Matches c.in-Ok.types new ↔ LeadsIn a.self.now a.func within a.body.now (reverse a.params.now) new)
          c.in_ok-labels.ensures
          (after_exact_there f.of.now c.self.inside.packed a.self.now a.func f.func.now f.func_type.now
          c.in-Some.ensures.of c.self.view_is c.in-Some.ensures.own c.in-Some.ensures.is_type c.in_ok-labels.labels
          a.body.now a.params.now c.in-Ok.types c.in-Ok.ensures.ok);
    }

pub returns-in-Err-Invalid : goal.returns-in-Err-Invalid
returns-in-Err-Invalid c =
    let f = c.in-Some.function in
    let a = c.args in
    record {
      exact =
          subst
          (λ (within : List (List ValType)). (new : List ValType)
          → LeadsIn a.self.now a.func within a.body.now (reverse a.params.now) new → ⊥) c.in_ok-labels.ensures
          (after_none_there f.of.now c.self.inside.packed a.self.now a.func f.func.now f.func_type.now
          c.in-Some.ensures.of c.self.view_is c.in-Some.ensures.own c.in-Some.ensures.is_type c.in_ok-labels.labels
          a.body.now a.params.now
          (c.end_of.ensures.invalid (c.in-Err-Invalid.is ∙ ap Err c.in-Err-Invalid.field-0-is)));
    }
