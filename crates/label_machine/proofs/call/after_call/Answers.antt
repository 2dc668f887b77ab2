use Rattle.std.proofs.Common.{subst, sym}
use Rattle.step_machine.specs.Turns.{settled}
use Rattle.step_machine.specs.declared.ends.End.TheVariants.{Exited}
use Rattle.label_machine.specs.declared.run.Doing.TheVariants.{Next, Calls}
use Rattle.label_machine.specs.Inside.Calls.{GoesOn, CallLeads, CallLightens}
use Rattle.label_machine.specs.Inside.Runs.{config, Leads}
use Rattle.label_machine.specs.Inside.Weights.{weight, IsLighter}
use Rattle.label_machine.proofs.CallLemmas.{limited_leads, limited_lighter}
use Rattle.label_machine.proofs.SettleLemmas.{ends_at}
use Rattle.label_machine.proofs.call.after_call.Goals as goal

pub returns-in-Goes-clause-leads : goal.returns-in-Goes-clause-leads
returns-in-Goes-clause-leads c p x func leads =
    let y = c.args.run in
    let goes : GoesOn p x y func = subst (CallLeads p x y func) c.in-Goes.is leads in
    limited_leads p (settled p (config x (Calls func))) y Next c.limited.result c.limited.ensures goes.of goes.goes
    goes.stops

pub returns-in-Goes-clause-lighter : goal.returns-in-Goes-clause-lighter
returns-in-Goes-clause-lighter c x func less =
    limited_lighter (weight x (Calls func)) c.args.run Next c.limited.result c.limited.ensures
    (subst (CallLightens x c.args.run func) c.in-Goes.is less)

pub returns-in-Exits-clause-leads : goal.returns-in-Exits-clause-leads
returns-in-Exits-clause-leads c p x func leads =
    let y = c.args.run in
    let at = config x (Calls func) in
    let left = subst (CallLeads p x y func) c.in-Exits.is leads in
    subst (Leads p at) (sym c.ended.ensures)
    (ends_at (settled p at) (Exited c.in-Exits.number) y.store left.0, left.1)

pub returns-in-Exits-clause-lighter : goal.returns-in-Exits-clause-lighter
returns-in-Exits-clause-lighter c x func less = subst (IsLighter (weight x (Calls func))) (sym c.ended.ensures) tt

pub returns-in-Stuck-clause-leads : goal.returns-in-Stuck-clause-leads
returns-in-Stuck-clause-leads c p x func leads = subst (CallLeads p x c.args.run func) c.in-Stuck.is leads
