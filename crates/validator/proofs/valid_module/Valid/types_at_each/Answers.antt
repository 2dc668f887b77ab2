use Rattle.std.proofs.Common.{Err, ap, ◌∙◌}
use Rattle.validator.specs.PlaceTypes.{IsPlace}
use Rattle.validator.proofs.PlacesOfModules.{answers_there}
use Rattle.validator.proofs.EachOfModules.{each_there, never_fails, inside_body}
use Rattle.validator.proofs.valid_module.Valid.types_at_each.Goals as goal

pub known_at_each-requires-clause-inside : goal.known_at_each-requires-clause-inside
known_at_each-requires-clause-inside c =
    let f = c.own_function-function in
    inside_body c.packed.result.now c.args.self.now c.args.func f.result.func.now c.args.places.now
    c.packed.ensures.value
    f.ensures.own c.requires.places

pub unreachable-requires : goal.unreachable-requires
unreachable-requires c =
    let f = c.own_function-function in
    never_fails f.result.of.now c.packed.result.now c.args.self.now c.args.func f.result.func.now
    f.result.func_type.now f.ensures.of c.packed.ensures.value c.packed.ensures.valid f.ensures.own f.ensures.is_type
    (c.known_at_each.ensures.invalid (c.in-Err-Invalid.is ∙ ap Err c.in-Err-Invalid.field-0-is))

pub returns-in-Ok-clause-exact : goal.returns-in-Ok-clause-exact
returns-in-Ok-clause-exact c =
    let f = c.own_function-function in
    each_there (IsPlace c.args.self.now c.args.func) _ _ c.args.places.now c.in-Ok.types.items c.requires.places
    (λ place t there is.
    (answers_there f.result.of.now c.packed.result.now c.args.self.now c.args.func place f.result.func.now
    f.result.func_type.now f.ensures.of c.packed.ensures.value c.packed.ensures.valid f.ensures.own f.ensures.is_type
    there).exact t is) c.in-Ok.ensures.ok

pub returns-in-Ok-clause-every : goal.returns-in-Ok-clause-every
returns-in-Ok-clause-every c =
    let f = c.own_function-function in
    each_there (IsPlace c.args.self.now c.args.func) _ _ c.args.places.now c.in-Ok.types.items c.requires.places
    (λ place t there is.
    (answers_there f.result.of.now c.packed.result.now c.args.self.now c.args.func place f.result.func.now
    f.result.func_type.now f.ensures.of c.packed.ensures.value c.packed.ensures.valid f.ensures.own f.ensures.is_type
    there).every t is) c.in-Ok.ensures.ok

pub returns-in-Ok-clause-some : goal.returns-in-Ok-clause-some
returns-in-Ok-clause-some c =
    let f = c.own_function-function in
    each_there (IsPlace c.args.self.now c.args.func) _ _ c.args.places.now c.in-Ok.types.items c.requires.places
    (λ place t there is.
    (answers_there f.result.of.now c.packed.result.now c.args.self.now c.args.func place f.result.func.now
    f.result.func_type.now f.ensures.of c.packed.ensures.value c.packed.ensures.valid f.ensures.own f.ensures.is_type
    there).some t is) c.in-Ok.ensures.ok
