use Rattle.std.proofs.Common.{◌≡◌, List, [], Some, None, subst, sym, ◌∙◌, arith}
use Rattle.wasm_ast.specs.declared.values.Value.{Value}
use Rattle.wasm_ast.specs.declared.values.FuncType.{FuncType}
use Rattle.oci_config.specs.declared.process.ProcessConfig.{ProcessConfig}
use Rattle.step_machine.specs.Program.{program}
use Rattle.step_machine.specs.Configuration.{running, seq, more, invoke}
use Rattle.label_machine.specs.declared.frame.Frame.{Frame}
use Rattle.label_machine.specs.Inside.Callees.{IsCallOf}
use Rattle.label_machine.specs.Inside.Runs.{configured, tail_from, IsPending, MayBePending, IsOf, Leads}
use Rattle.label_machine.specs.Inside.View.{level_of}
use Rattle.label_machine.proofs.SettleLemmas.{on_ok}
use Rattle.label_machine.proofs.OutermostLemmas.{some_so, nothing_there}
use Rattle.label_machine.proofs.outermost.finish.Goals as goal

pub returns-then-count-eq0-clause-leads : goal.returns-then-count-eq0-clause-leads
returns-then-count-eq0-clause-leads c p vs many =
    let q = program c.args.of.now p in
    let r = c.args.store in
    let func = c.in-Some.func in
    let none = nothing_there vs (many ∙ c.if-count-eq0.true) in
    on_ok
    (λ s. IsPending q func → IsOf q None r
    → Leads q (configured r (running (seq [] (more (invoke func) (tail_from None))))) s)
    (λ s. IsOf q c.args.pending r → Leads q (configured r (running (seq vs (tail_from c.args.pending)))) s)
    c.begin.result
    (λ s leads of.
    subst (λ o. Leads q (configured r (running (seq vs (tail_from o)))) s) (sym c.in-Some.is)
    (subst (λ (us : List Value). Leads q (configured r (running (seq us (tail_from (Some func))))) s) (sym none)
    (leads (subst (MayBePending q) c.in-Some.is of.invoked_later)
    (record { process = of.process; invoked_later = tt }))))
    (c.begin.ensures.leads p)

pub returns-in-Some-2-clause-leads : goal.returns-in-Some-2-clause-leads
returns-in-Some-2-clause-leads c p vs many of =
    let m = c.args.of.now in
    let q = program m p in
    let r = c.args.store in
    let func = c.in-Some.func in
    let call =
    some_so ((k : ProcessConfig) → IsPending (program m k) func → ⊥)
    (λ (f : Frame). (t : FuncType) × (t.params ≡ []) × IsCallOf m func t [] (level_of f)) c.in_ok-top.field-0
    c.in-Some-2.top c.in-Some-2.is c.in_ok-top.ensures in
    let some = c.if-count-eq0.false in
    subst (λ o. Leads q (configured r (running (seq vs (tail_from o)))) c.begin_above.result) (sym c.in-Some.is)
    (c.begin_above.ensures.leads p m func call.0 vs many (omega (arith, some)) call.1 call.2
    (record { process = of.process; invoked_later = tt }))
