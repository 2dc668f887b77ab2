use Rattle.std.proofs.Common.{refl, ap}
use Rattle.step_machine.specs.Configuration.{invoke, branch, ret}
use Rattle.step_machine.specs.Turns.{turn}
use Rattle.step_machine.specs.declared.ends.End.TheVariants.{Trapped}
use Rattle.label_machine.specs.declared.run.Doing.TheVariants.{Next, Calls, Branches, Returns}
use Rattle.label_machine.specs.Inside.Effects.{effect_of, may_change}
use Rattle.label_machine.specs.Inside.Runs.{about_to}
use Rattle.label_machine.proofs.SettleLemmas.{ends_at}
use Rattle.label_machine.proofs.CallLemmas.{limited_leads}
use Rattle.label_machine.proofs.TurnLemmas.{done_goes, done_exhausts, on_its_way, traps_so, stuck_so}
use Rattle.label_machine.proofs.execute.after_effect.Goals as goal

pub returns-in-Done : goal.returns-in-Done
returns-in-Done c p x place o d within of =
    limited_leads p (turn p (about_to x place o)) c.args.run Next c.limited.result c.limited.ensures of
    (done_goes p x c.args.run place o c.args.effect d c.in-Done.is)
    (done_exhausts p x c.args.run place o c.args.effect d c.in-Done.is within)

pub returns-in-Calls : goal.returns-in-Calls
returns-in-Calls c p x place o d within of =
    on_its_way p x c.args.run place o c.args.effect d (invoke c.in-Calls.func) (Calls c.in-Calls.func)
    (ap may_change c.in-Calls.is) (λ en vs. ap (λ e. effect_of e en vs) c.in-Calls.is) (λ k. refl) refl refl within
    c.limited-in-Calls.result of c.limited-in-Calls.ensures

pub returns-in-Branches : goal.returns-in-Branches
returns-in-Branches c p x place o d within of =
    on_its_way p x c.args.run place o c.args.effect d (branch c.in-Branches.label) (Branches c.in-Branches.label)
    (ap may_change c.in-Branches.is) (λ en vs. ap (λ e. effect_of e en vs) c.in-Branches.is) (λ k. refl) refl refl
    within c.limited-in-Branches.result of c.limited-in-Branches.ensures

pub returns-in-Returns : goal.returns-in-Returns
returns-in-Returns c p x place o d within of =
    on_its_way p x c.args.run place o c.args.effect d ret Returns (ap may_change c.in-Returns.is)
    (λ en vs. ap (λ e. effect_of e en vs) c.in-Returns.is) (λ k. refl) refl refl within c.limited-in-Returns.result of
    c.limited-in-Returns.ensures

pub returns-in-Traps : goal.returns-in-Traps
returns-in-Traps c p x place o d within of = (
  ends_at (turn p (about_to x place o)) (Trapped c.in-Traps.trap) c.args.run.store
      (traps_so p x c.args.run place o c.args.effect d c.in-Traps.trap c.in-Traps.is),
  of.process,
)

pub returns : goal.returns
returns c p x place o d within of = stuck_so p x c.args.run place o c.args.effect d c.in-Stuck.is
