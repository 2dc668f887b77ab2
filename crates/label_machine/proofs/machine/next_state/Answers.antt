use Rattle.std.proofs.Common.{◌≡◌, ◌==◌, ◌+◌, true, false, subst, sym, ap, ◌∙◌}
use Rattle.step_machine.specs.Limits.{last_turn}
use Rattle.step_machine.specs.Program.{program}
use Rattle.step_machine.specs.Turns.{turn}
use Rattle.step_machine.specs.Instantiation.{after}
use Rattle.label_machine.specs.declared.run.Doing.TheVariants.{Next}
use Rattle.label_machine.specs.Inside.Runs.{config, IsInvalid, LeadsTo}
use Rattle.label_machine.proofs.SettleLemmas.{ends_at}
use Rattle.label_machine.proofs.MachineLemmas.{one_more, last_turn_traps, step_back, settled_state, something_next, numbered_next, not_it}
use Rattle.wasm_ast.specs.declared.trap.Trap.TheVariants as trap
use Rattle.step_machine.specs.declared.ends.End.TheVariants.{Trapped}
use Rattle.label_machine.proofs.machine.next_state.Goals as goal

-- src/machine.rt:103:9
pub returns-then-number-eq-LAST_TURN : goal.returns-then-number-eq-LAST_TURN
returns-then-number-eq-LAST_TURN c p n is h =
    let m = c.args.of.now in
    let x = c.args.run in
    let last :
    (n + 1 == last_turn) ≡ true =
    ap (λ k. k == last_turn) (sym is) ∙ ap (λ k. k == last_turn) c.if-number-eq-LAST_TURN.true in (
      ends_at (after m p c.args.number) (Trapped trap.TurnLimit) x.store
          (ap (after m p) is ∙ last_turn_traps m p n x h last),
      h.2.process,
    )

pub execute-requires : goal.execute-requires
execute-requires c =
    let r = c.requires.reached in
    record {
      next = something_next c.args.run r.3.3;
      fits = numbered_next c.args.of.now r.0 r.1 c.args.run r.3 r.4.numbered;
    }

pub state_from-requires : goal.state_from-requires
state_from-requires c =
    let m = c.args.of.now in
    let x = c.args.run in
    let r = c.requires.reached in
    let p = r.0 in
    let n = r.1 in
    let h = r.3 in
    let q = program m p in
    let more : (n + 1 == last_turn) ≡ false =
    ap (λ k. k == last_turn) (sym r.2) ∙ not_it c.args.number c.if-number-eq-LAST_TURN.false in
    let done = c.in_ok-execute.ensures p h.1 h.2 in
    let settled_so = c.in_ok-step.ensures p (turn q (config x Next)) done in
    settled_state m p (turn q (config x Next)) c.in_ok-step.step settled_so.0 settled_so.1
    (λ invalid. r.4.always (n + 1) (subst IsInvalid (sym (one_more m p n x h more)) invalid))

pub returns : goal.returns
returns c p n is h =
    let m = c.args.of.now in
    let x = c.args.run in
    let q = program m p in
    let more : (n + 1 == last_turn) ≡ false =
    ap (λ k. k == last_turn) (sym is) ∙ not_it c.args.number c.if-number-eq-LAST_TURN.false in
    let done = c.in_ok-execute.ensures p h.1 h.2 in
    let settled_so = c.in_ok-step.ensures p (turn q (config x Next)) done in
    subst (LeadsTo q (after m p c.args.number)) (step_back c.in_ok-step.step c.state_from.result c.state_from.ensures)
    (subst (λ d. LeadsTo q d c.in_ok-step.step) (sym (ap (after m p) is ∙ one_more m p n x h more)) settled_so.1)
