use Rattle.std.proofs.Common.{Err, ap, ◌∙◌}
use Rattle.validator.proofs.UncheckedTypes.{before_exact_there, before_none_there}
use Rattle.validator.proofs.unchecked.Unchecked.types_before.Goals as goal

pub returns-in-Ok : goal.returns-in-Ok
returns-in-Ok c =
    let f = c.in-Some.function in
    record {
      exact =
          before_exact_there f.of.now c.self.inside.packed c.args.self.now c.args.func c.args.place f.func.now
          f.func_type.now c.in-Some.ensures.of c.self.view_is c.in-Some.ensures.own c.in-Some.ensures.is_type
          c.in-Ok.types c.in-Ok.ensures.ok;
    }

pub returns-in-Err-Invalid : goal.returns-in-Err-Invalid
returns-in-Err-Invalid c =
    let f = c.in-Some.function in
    record {
      exact =
          before_none_there f.of.now c.self.inside.packed c.args.self.now c.args.func c.args.place f.func.now
          f.func_type.now c.in-Some.ensures.of c.self.view_is c.in-Some.ensures.own c.in-Some.ensures.is_type
          (c.known_at.ensures.invalid (c.in-Err-Invalid.is ∙ ap Err c.in-Err-Invalid.field-0-is));
    }
