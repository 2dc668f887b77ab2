use Rattle.validator.proofs.NeedLemmas.{taken_there}
use Rattle.validator.proofs.unchecked.Unchecked.taken_by.Goals as goal

pub returns-in-Ok-clause-taken : goal.returns-in-Ok-clause-taken
returns-in-Ok-clause-taken c =
    let f = c.in-Some.function in
    let a = c.args in
    taken_there f.of.now c.self.inside.packed a.self.now a.func f.func.now f.func_type.now c.in-Some.ensures.of
    c.self.view_is c.in-Some.ensures.own c.in-Some.ensures.is_type a.known.now.labels a.simple.now c.in-Ok.needs
    c.taken.result c.in-Ok.ensures.ok c.taken.ensures
