use Rattle.std.proofs.Common.{◌≡◌, refl, ℕ, true, Some, is_none, sym, ap, ◌∙◌, subst}
use Rattle.task_lifecycle.specs.Names.{signal_of}
use Rattle.task_requests.specs.declared.request.Ask.TheVariants as ask
use Rattle.task_board.specs.Inside.Plans.{PlansAsk}
use Rattle.task_board.proofs.EffectLemmas.{signal_known}
use Rattle.task_board.proofs.task.Task.plan_kill.Goals as goal

pub returns-in-Some : goal.returns-in-Some
returns-in-Some c =
    let is : signal_of c.args.number ≡ Some c.in-Some.signal = sym c.from_number.ensures ∙ c.in-Some.is in
    subst (λ (n : ℕ). PlansAsk c.args.self.now c.args.slot c.args.id (ask.Kill n) c.plan_change.result)
    (signal_known c.args.number c.in-Some.signal is) c.plan_change.ensures

pub returns-in-None : goal.returns-in-None
returns-in-None c =
    let none : is_none (signal_of c.args.number) ≡ true = ap is_none (sym c.from_number.ensures ∙ c.in-None.is) in
    (λ h. cc, rw none refl)
