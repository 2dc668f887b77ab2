use Rattle.std.proofs.Common.{◌<◌, length, arith}
use Rattle.std.proofs.lemmas.Bool.Decides.{nat_tests}
use Rattle.label_machine.proofs.ShownLemmas.{first_is_next}
use Rattle.label_machine.proofs.shown.+next_place.Goals as goal

pub returns-then-not-is_empty : goal.returns-then-not-is_empty
returns-then-not-is_empty t c =
    let some :
    0 < length c.args.ahead.rest.now = grind (arith, nat_tests, c.if-not-is_empty.ensures, c.is_empty.ensures) in
    first_is_next c.args.ahead.place c.args.ahead.rest.now _ some
