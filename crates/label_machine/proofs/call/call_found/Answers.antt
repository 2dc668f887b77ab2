use Rattle.std.proofs.Common.{◌≡◌, ℕ, Some, map, ap, ◌∙◌}
use Rattle.std.specs.Prelude.{slice_get}
use Rattle.wasm_ast.specs.Types.{zero_of}
use Rattle.oci_config.specs.declared.process.ProcessConfig.{ProcessConfig}
use Rattle.step_machine.specs.Configuration.{Configuration}
use Rattle.step_machine.specs.Program.{Program, host, own, program}
use Rattle.label_machine.specs.declared.callee.Callee.{Callee}
use Rattle.label_machine.specs.Inside.Callees.{function_of}
use Rattle.label_machine.specs.Inside.Calls.{CallLeads, CallLightens}
use Rattle.label_machine.specs.Inside.Runs.{IsWithin, IsOf, no_rule}
use Rattle.label_machine.proofs.CallLemmas.{calls_none}
use Rattle.label_machine.proofs.SettleLemmas.{on_ok}
use Rattle.label_machine.proofs.call.call_found.Goals as goal

pub returns-in-Some-System-clause-leads : goal.returns-in-Some-System-clause-leads
returns-in-Some-System-clause-leads c =
    let m = c.args.of.now in
    let x = c.args.run.now in
    let y = c.call_system.new.run in
    on_ok
    (λ o. (p : Program) (func : ℕ) → IsWithin x → IsOf p x.pending x.store
    → slice_get p.functions func ≡ Some (host c.in-Some-System.call) → CallLeads p x y func o)
    (λ o. (p : ProcessConfig) → IsWithin x → IsOf (program m p) x.pending x.store
    → CallLeads (program m p) x y c.args.func o) c.call_system.result
    (λ o h p within of. h (program m p) c.args.func within of
    (c.in-Some-System.ensures ∙ ap (λ (f : Callee). Some (function_of f)) c.in-Some-System.field-0-is))
    c.call_system.ensures.leads

pub returns-in-Some-System-clause-lighter : goal.returns-in-Some-System-clause-lighter
returns-in-Some-System-clause-lighter c =
    let x = c.args.run.now in
    let y = c.call_system.new.run in
    on_ok (λ o. (func : ℕ) → CallLightens x y func o) (CallLightens x y c.args.func) c.call_system.result
    (λ o h. h c.args.func) c.call_system.ensures.lighter

pub returns-in-Some-Own-clause-leads : goal.returns-in-Some-Own-clause-leads
returns-in-Some-Own-clause-leads c =
    let m = c.args.of.now in
    let x = c.args.run.now in
    let y = c.call_own.new.run in
    let t = c.in-Some-Own.func_type.now in
    let found = c.in-Some-Own.found.now in
    on_ok
    (λ o. (p : Program) → IsOf p x.pending x.store
    → slice_get p.functions c.args.func ≡ Some (own t (map zero_of found.locals) found.body)
    → CallLeads p x y c.args.func o)
    (λ o. (p : ProcessConfig) → IsWithin x → IsOf (program m p) x.pending x.store
    → CallLeads (program m p) x y c.args.func o) c.call_own.result
    (λ o h p within of. h (program m p) of
    (c.in-Some-Own.ensures ∙ ap (λ (f : Callee). Some (function_of f)) c.in-Some-Own.field-0-is))
    c.call_own.ensures.leads

pub returns-in-None-clause-leads : goal.returns-in-None-clause-leads
returns-in-None-clause-leads c p within of =
    no_rule
    (ap (λ (d : Configuration). d.state)
    (calls_none (program c.args.of.now p) c.args.run.now c.args.func c.in-None.ensures))
