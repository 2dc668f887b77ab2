use Rattle.std.proofs.Common.{◌≡◌, ◌+◌, [], refl, ap}
use Rattle.std.proofs.Common.{length}
use Rattle.wasm_ast.specs.declared.values.FuncType.{FuncType}
use Rattle.oci_config.specs.declared.process.ProcessConfig.{ProcessConfig}
use Rattle.step_machine.specs.Program.{program}
use Rattle.step_machine.specs.Configuration.{running, seq, more, invoke}
use Rattle.step_machine.specs.Turns.{settled}
use Rattle.step_machine.specs.Inside.Levels.{Level}
use Rattle.label_machine.specs.declared.frame.Frame.{Frame}
use Rattle.label_machine.specs.Inside.Callees.{IsCallOf}
use Rattle.label_machine.specs.Inside.Runs.{configured, store_of, tail_from, IsPending}
use Rattle.label_machine.specs.Inside.View.{level_of}
use Rattle.label_machine.specs.Inside.Weights.{pending_weight}
use Rattle.label_machine.specs.declared.run.Run.{Run}
use Rattle.label_machine.specs.declared.run.Doing.TheVariants.{Next}
use Rattle.label_machine.proofs.SettleLemmas.{begins}
use Rattle.label_machine.proofs.CallLemmas.{limited_leads, limited_lighter}
use Rattle.label_machine.proofs.OutermostLemmas.{begins_over, some_so, none_so}
use Rattle.label_machine.proofs.WeightLemmas.{first_lighter}
use Rattle.label_machine.proofs.outermost.begin.Goals as goal

pub returns-in_default-clause-leads : goal.returns-in_default-clause-leads
returns-in_default-clause-leads c p invoked of =
    let m = c.args.of.now in
    absurd
    (none_so ((q : ProcessConfig) → IsPending (program m q) c.args.func → ⊥)
    (λ (f : Frame). (t : FuncType) × (t.params ≡ []) × IsCallOf m c.args.func t [] (level_of f)) c.in_ok-top.field-0
    c.in_default.not-Some c.in_ok-top.ensures p invoked)

pub returns-clause-leads : goal.returns-clause-leads
returns-clause-leads c p invoked of =
    let m = c.args.of.now in
    let call =
    some_so ((q : ProcessConfig) → IsPending (program m q) c.args.func → ⊥)
    (λ (f : Frame). (t : FuncType) × (t.params ≡ []) × IsCallOf m c.args.func t [] (level_of f)) c.in_ok-top.field-0
    c.in-Some.top c.in-Some.is c.in_ok-top.ensures in
    let x : Run = record {
      top = c.in-Some.top;
      callers = c.new-callers.result;
      pending = c.args.pending;
      store = c.args.store;
    } in
    let from = configured c.args.store (running (seq [] (more (invoke c.args.func) (tail_from c.args.pending)))) in
    limited_leads (program m p) (settled (program m p) from) x Next c.limited.result c.limited.ensures of
    (begins m p (store_of c.args.store) c.args.func call.0 x call.1 call.2 c.new-callers.ensures refl)
    (begins_over m p c.args.func call.0 x call.1 call.2 c.new-callers.ensures)

pub returns-clause-lighter : goal.returns-clause-lighter
returns-clause-lighter c =
    let m = c.args.of.now in
    let call =
    some_so ((q : ProcessConfig) → IsPending (program m q) c.args.func → ⊥)
    (λ (f : Frame). (t : FuncType) × (t.params ≡ []) × IsCallOf m c.args.func t [] (level_of f)) c.in_ok-top.field-0
    c.in-Some.top c.in-Some.is c.in_ok-top.ensures in
    let x : Run = record {
      top = c.in-Some.top;
      callers = c.new-callers.result;
      pending = c.args.pending;
      store = c.args.store;
    } in
    limited_lighter (2 + pending_weight c.args.pending) x Next c.limited.result c.limited.ensures
    (first_lighter x c.new-callers.ensures (ap (λ (l : Level). length l.opens) call.2.level))
