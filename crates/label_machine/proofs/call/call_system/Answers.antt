use Rattle.std.proofs.Common.{◌≡◌, ◌≢◌, List, ◌∷◌, map, take, reverse, length, refl, ap, ◌∙◌}
use Rattle.wasm_ast.specs.declared.values.Value.{Value}
use Rattle.wasm_ast.specs.declared.values.Value.TheVariants.{I32}
use Rattle.wasm_ast.specs.Types.{type_of}
use Rattle.wasi_calls.specs.HostCalls.{host_type}
use Rattle.wasi_calls.specs.SystemCalls.{HostDone, state_of}
use Rattle.oci_config.specs.Processes.{config_of}
use Rattle.step_machine.specs.Reduction.{host_state}
use Rattle.step_machine.specs.Configuration.{Configuration}
use Rattle.label_machine.specs.declared.run.Run.{Run}
use Rattle.label_machine.specs.Inside.View.{level_of}
use Rattle.label_machine.specs.Inside.Runs.{store_of, no_rule}
use Rattle.label_machine.proofs.CallLemmas.{calls_without, Answered, system_goes, system_exhausts, system_leaves, made_so}
use Rattle.label_machine.proofs.OutermostLemmas.{some_so, none_so}
use Rattle.label_machine.proofs.WeightLemmas.{answered_lighter}
use Rattle.label_machine.proofs.call.call_system.Goals as goal

pub returns-in-Value-clause-leads : goal.returns-in-Value-clause-leads
returns-in-Value-clause-leads c p func within of is =
    let x = c.args.run.now in
    let h = c.args.call in
    let vs = reverse (take (length (host_type h).params) x.top.operands) in
    let d : HostDone = record { answer = c.host.result; state = state_of c.host.new.memory.0 c.host.new.process } in
    let found =
    some_so (map type_of vs ≢ (host_type h).params)
    (λ a. (a.items ≡ vs) × (map type_of a.items ≡ (host_type h).params)) c.in_ok-args.field-0 c.in-Some.args
    c.in-Some.is c.in_ok-args.ensures.taken in
    let y : Run = record x {
      top = record x.top { operands = c.push.new.self };
      store = record x.store { memory = c.host.new.memory.0; process = c.host.new.process };
    } in
    let answered : Answered p x y func h d c.in-Value.number = record {
      is = is;
      made =
          made_so p (config_of x.store.process) h c.as_slice.result.now vs (host_state (store_of x.store)) d of.process
          (c.as_slice.ensures.value ∙ found.0) c.host.ensures.done;
      answer = c.in-Value.is;
      top =
          ap (λ (us : List Value). record (level_of x.top) { operands = us })
          (c.in_ok-push-in-Value.ensures
          ∙ ap (λ (us : List Value). I32 c.in-Value.number ∷ us) c.in_ok-args.ensures.left);
      callers = refl;
      pending = refl;
      store = refl;
    } in
    record {
      goes = system_goes p x y func h d c.in-Value.number answered;
      stops = system_exhausts p x y func h d c.in-Value.number answered within;
      of = record { process = c.host.ensures.config ∙ of.process; invoked_later = of.invoked_later };
    }

pub returns-in-Value-clause-lighter : goal.returns-in-Value-clause-lighter
returns-in-Value-clause-lighter c func =
    let x = c.args.run.now in
    let y : Run = record x {
      top = record x.top { operands = c.push.new.self };
      store = record x.store { memory = c.host.new.memory.0; process = c.host.new.process };
    } in
    answered_lighter x y func refl refl refl

pub returns-clause-leads : goal.returns-clause-leads
returns-clause-leads c p func within of is =
    let x = c.args.run.now in
    let h = c.args.call in
    let vs = reverse (take (length (host_type h).params) x.top.operands) in
    let d : HostDone = record { answer = c.host.result; state = state_of c.host.new.memory.0 c.host.new.process } in
    let found =
    some_so (map type_of vs ≢ (host_type h).params)
    (λ a. (a.items ≡ vs) × (map type_of a.items ≡ (host_type h).params)) c.in_ok-args.field-0 c.in-Some.args
    c.in-Some.is c.in_ok-args.ensures.taken in
    let made =
    made_so p (config_of x.store.process) h c.as_slice.result.now vs (host_state (store_of x.store)) d of.process
    (c.as_slice.ensures.value ∙ found.0) c.host.ensures.done in
    (system_leaves p x func h d c.in-Exit.number is made c.in-Exit.is, c.host.ensures.config ∙ of.process)

pub returns-in_default-clause-leads : goal.returns-in_default-clause-leads
returns-in_default-clause-leads c p func within of is =
    let h = c.args.call in
    let vs = reverse (take (length (host_type h).params) c.args.run.now.top.operands) in
    let other =
    none_so (map type_of vs ≢ (host_type h).params)
    (λ a. (a.items ≡ vs) × (map type_of a.items ≡ (host_type h).params)) c.in_ok-args.field-0 c.in_default.not-Some
    c.in_ok-args.ensures.taken in
    no_rule (ap (λ (k : Configuration). k.state) (calls_without p c.args.run.now func h is other))
