use Rattle.std.proofs.Common.{All, subst}
use Rattle.std.proofs.lemmas.List.{take_all}
use Rattle.std.proofs.lemmas.List.Elements.{All-more}
use Rattle.label_machine.specs.Inside.Sound.{IsNumbered}
use Rattle.label_machine.proofs.numbered.number_all.Goals as goal

pub loop-func-preserved : goal.loop-func-preserved
loop-func-preserved c =
    All-more IsNumbered c.args.funcs.now c.loop-func.func-index c.func-item.result c.loop-func-test.true
    c.loop-func.invariant (subst IsNumbered c.func-item.is c.in_ok-number.ensures)

pub returns : goal.returns
returns c =
    subst (All IsNumbered) (take_all c.loop-func.func-index c.args.funcs.now c.loop-func-test.false)
    c.loop-func.invariant
