use Rattle.std.proofs.Common.{subst, sym}
use Rattle.step_machine.specs.Program.{program}
use Rattle.label_machine.specs.Inside.Runs.{LeadsTo}
use Rattle.label_machine.proofs.SettleLemmas.{settled_so}
use Rattle.label_machine.proofs.settle.settle.Goals as goal

pub returns-in_default : goal.returns-in_default
returns-in_default c p conf h = (settled_so c.loop-step.step c.in_default.not-Goes, c.loop-step.invariant p conf h)

pub loop-step-preserved : goal.loop-step-preserved
loop-step-preserved c p conf h =
    let q = program c.args.of.now p in
    let now = subst (LeadsTo q conf) c.in-Goes.is (c.loop-step.invariant p conf h) in
    subst (λ d. LeadsTo q d c.in_ok-step-in-Goes.step) (sym now.0) (c.in_ok-step-in-Goes.ensures.leads p now.1 now.2)
