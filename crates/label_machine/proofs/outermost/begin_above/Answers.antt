use Rattle.std.proofs.Common.{◌+◌, ◌<◌, ◌≤◌, length, arith}
use Rattle.std.proofs.lemmas.Bool.Decides.{nat_tests}
use Rattle.step_machine.specs.Limits.{max_values}
use Rattle.label_machine.proofs.OutermostLemmas.{above_something}
use Rattle.label_machine.proofs.outermost.begin_above.Goals as goal

pub returns-clause-leads : goal.returns-clause-leads
returns-clause-leads c p m func t vs many some none call of =
    let f = c.args.top in
    let a = c.if-count-gt-MAX_VALUES.false in
    let b = c.if-len-count.false in
    let d = c.len.ensures in
    let few : length vs + length f.locals.items ≤ max_values = omega (arith, a, b, d, many) in
    let there : 0 < length f.ahead.rest.now =
    grind (arith, nat_tests, c.if-is_empty.ensures, c.is_empty.ensures) in
    above_something m p c.args.store func t vs f call none of.process few (omega (arith, many, some)) there
