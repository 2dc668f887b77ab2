use Rattle.std.proofs.Common.{Err, ap, ◌∙◌}
use Rattle.validator.proofs.PlacesOfModules.{answers_there}
use Rattle.validator.proofs.valid_module.Valid.types_at.Goals as goal

pub unreachable-requires : goal.unreachable-requires
unreachable-requires c =
    let f = c.own_function-function in
    let answers =
    answers_there f.result.of.now c.packed.result.now c.args.self.now c.args.func c.args.place f.result.func.now
    f.result.func_type.now f.ensures.of c.packed.ensures.value c.packed.ensures.valid f.ensures.own f.ensures.is_type
    c.requires in
    answers.answers (c.known_at.ensures.invalid (c.in-Err-Invalid.is ∙ ap Err c.in-Err-Invalid.field-0-is))

pub returns-in-Ok-clause-exact : goal.returns-in-Ok-clause-exact
returns-in-Ok-clause-exact c =
    let f = c.own_function-function in
    let answers =
    answers_there f.result.of.now c.packed.result.now c.args.self.now c.args.func c.args.place f.result.func.now
    f.result.func_type.now f.ensures.of c.packed.ensures.value c.packed.ensures.valid f.ensures.own f.ensures.is_type
    c.requires in
    answers.exact c.in-Ok.types c.in-Ok.ensures.ok

pub returns-in-Ok-clause-every : goal.returns-in-Ok-clause-every
returns-in-Ok-clause-every c =
    let f = c.own_function-function in
    let answers =
    answers_there f.result.of.now c.packed.result.now c.args.self.now c.args.func c.args.place f.result.func.now
    f.result.func_type.now f.ensures.of c.packed.ensures.value c.packed.ensures.valid f.ensures.own f.ensures.is_type
    c.requires in
    answers.every c.in-Ok.types c.in-Ok.ensures.ok

pub returns-in-Ok-clause-some : goal.returns-in-Ok-clause-some
returns-in-Ok-clause-some c =
    let f = c.own_function-function in
    let answers =
    answers_there f.result.of.now c.packed.result.now c.args.self.now c.args.func c.args.place f.result.func.now
    f.result.func_type.now f.ensures.of c.packed.ensures.value c.packed.ensures.valid f.ensures.own f.ensures.is_type
    c.requires in
    answers.some c.in-Ok.types c.in-Ok.ensures.ok
