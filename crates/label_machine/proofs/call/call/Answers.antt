use Rattle.step_machine.specs.Program.{program}
use Rattle.label_machine.proofs.call.call.Goals as goal

pub returns-in-Ok-clause-leads : goal.returns-in-Ok-clause-leads
returns-in-Ok-clause-leads c p within of =
    c.after_call.ensures.leads (program c.args.of.now p) c.args.run c.args.func (c.in-Ok.ensures.leads p within of)

pub returns-in-Ok-clause-lighter : goal.returns-in-Ok-clause-lighter
returns-in-Ok-clause-lighter c = c.after_call.ensures.lighter c.args.run c.args.func c.in-Ok.ensures.lighter
