use Rattle.label_machine.proofs.ShownLemmas.{more_below}
use Rattle.label_machine.proofs.shown.+push_below.Goals as goal

pub returns-in_ok-extend_from_slice-in-Some : goal.returns-in_ok-extend_from_slice-in-Some
returns-in_ok-extend_from_slice-in-Some t c =
    more_below c.push_below.result c.args.labels.now c.in-Some.label.now c.in-Some.inner.now c.as_slice.result.now
    c.args.out.now.items c.extend_from_slice.new.self.items c.push_below.new.out.items c.in-Some.ensures.cases.0
    c.as_slice.ensures
    (c.in_ok-extend_from_slice-in-Some.ensures.items) c.push_below.ensures
