use Rattle.std.proofs.Common.{◌≡◌, [], Some, None, subst}
use Rattle.step_machine.specs.Configuration.{seq, more, invoke, running}
use Rattle.step_machine.specs.Instantiation.{initial}
use Rattle.step_machine.specs.Instantiation.{entry as entry_of}
use Rattle.step_machine.specs.Program.{program}
use Rattle.label_machine.specs.Inside.Runs.{configured, tail_from, IsPending, MayBePending, IsOf, Leads, LeadsTo}
use Rattle.label_machine.specs.Inside.Sound.{AreInvoked}
use Rattle.label_machine.specs.Inside.Reached.{IsFirst}
use Rattle.label_machine.proofs.SettleLemmas.{on_ok}
use Rattle.label_machine.proofs.MachineLemmas.{first_leads}
use Rattle.label_machine.proofs.machine.first_step.Goals as goal

pub returns-in-Some : goal.returns-in-Some
returns-in-Some c p =
    let m = c.args.of.now in
    let q = program m p in
    on_ok
    (λ s. IsPending q c.in-Some.func → IsOf q (Some c.args.entry) c.args.store
    → Leads q
    (configured c.args.store (running (seq [] (more (invoke c.in-Some.func) (tail_from (Some c.args.entry)))))) s)
    (λ s. entry_of m ≡ Some c.args.entry → IsFirst m p c.args.store → AreInvoked m p → LeadsTo q (initial m p) s)
    c.begin.result
    (λ s leads is first invoked. first_leads m p c.args.store (Some c.in-Some.func) c.args.entry s c.in-Some.is is first
    (leads (subst (MayBePending q) c.in-Some.is invoked.start)
    (record { process = first.process; invoked_later = invoked.entry c.args.entry is }))) (c.begin.ensures.leads p)

pub returns-in-None : goal.returns-in-None
returns-in-None c p =
    let m = c.args.of.now in
    let q = program m p in
    on_ok
    (λ s. IsPending q c.args.entry → IsOf q None c.args.store
    → Leads q (configured c.args.store (running (seq [] (more (invoke c.args.entry) (tail_from None))))) s)
    (λ s. entry_of m ≡ Some c.args.entry → IsFirst m p c.args.store → AreInvoked m p → LeadsTo q (initial m p) s)
    c.begin-in-None.result
    (λ s leads is first invoked. first_leads m p c.args.store None c.args.entry s c.in-None.is is first
    (leads (invoked.entry c.args.entry is) (record { process = first.process; invoked_later = tt })))
    (c.begin-in-None.ensures.leads p)
