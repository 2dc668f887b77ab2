use Rattle.label_machine.proofs.settle.reduce.Goals as goal

pub returns-in-Next-clause-leads : goal.returns-in-Next-clause-leads
returns-in-Next-clause-leads c p = rw c.in-Next.is (c.next.ensures.leads p)

pub returns-in-Next-clause-lighter : goal.returns-in-Next-clause-lighter
returns-in-Next-clause-lighter c = rw c.in-Next.is c.next.ensures.lighter

pub returns-in-Calls-clause-leads : goal.returns-in-Calls-clause-leads
returns-in-Calls-clause-leads c p = rw c.in-Calls.is (c.call.ensures.leads p)

pub returns-in-Calls-clause-lighter : goal.returns-in-Calls-clause-lighter
returns-in-Calls-clause-lighter c = rw c.in-Calls.is c.call.ensures.lighter

pub returns-in-Branches-clause-leads : goal.returns-in-Branches-clause-leads
returns-in-Branches-clause-leads c p = rw c.in-Branches.is (c.branch-alloc.ensures.leads p)

pub returns-in-Branches-clause-lighter : goal.returns-in-Branches-clause-lighter
returns-in-Branches-clause-lighter c = rw c.in-Branches.is c.branch-alloc.ensures.lighter

pub returns-in-Returns-clause-leads : goal.returns-in-Returns-clause-leads
returns-in-Returns-clause-leads c p = rw c.in-Returns.is (c.return_from.ensures.leads p)

pub returns-in-Returns-clause-lighter : goal.returns-in-Returns-clause-lighter
returns-in-Returns-clause-lighter c = rw c.in-Returns.is c.return_from.ensures.lighter
