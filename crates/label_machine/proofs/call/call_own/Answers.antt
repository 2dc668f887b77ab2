use Rattle.std.proofs.Common.{◌≡◌, List, ◌∷◌, map, take, drop, reverse, length, refl, ap, ◌∙◌}
use Rattle.wasm_ast.specs.declared.values.Value.{Value}
use Rattle.wasm_ast.specs.Types.{zero_of}
use Rattle.step_machine.specs.Inside.Levels.{Level}
use Rattle.label_machine.specs.declared.frame.Frame.{Frame}
use Rattle.label_machine.specs.declared.run.Run.{Run}
use Rattle.label_machine.specs.Inside.View.{level_of}
use Rattle.label_machine.specs.Inside.Callees.{called_with}
use Rattle.label_machine.proofs.CallLemmas.{Called, call_goes, call_exhausts}
use Rattle.label_machine.proofs.WeightLemmas.{called_lighter}
use Rattle.label_machine.proofs.call.call_own.Goals as goal

pub returns-clause-leads : goal.returns-clause-leads
returns-clause-leads c p of is =
    let x = c.args.run.now in
    let t = c.args.func_type.now in
    let zeros = map zero_of c.args.found.now.locals in
    let body = c.args.found.now.body in
    let y : Run = record x { top = c.replace-outer.new.dest; callers = c.push.new.self } in
    let args : c.into_oldest_first.result.items ≡ reverse (take (length t.params) x.top.operands) =
    c.into_oldest_first.ensures
    ∙ ap (reverse {A = Value}) (c.in_ok-args.ensures.taken ∙ ap (λ n. take n x.top.operands) c.len.ensures) in
    let left : c.take.new.self ≡ drop (length t.params) x.top.operands =
    c.in_ok-args.ensures.left ∙ ap (λ n. drop n x.top.operands) c.len.ensures in
    let called : Called p x y c.args.func t zeros body = record {
      is = is;
      top =
          ap level_of c.replace-outer.ensures.after
          ∙ (c.in_ok-inner.ensures ∙ ap (λ (vs : List Value). called_with t c.args.func vs zeros body) args);
      callers =
          ap (map level_of) c.in_ok-push.ensures
          ∙ (ap (λ (f : Frame). level_of f ∷ map level_of x.callers) c.replace-outer.ensures.value
          ∙ ap (λ (vs : List Value). record (level_of x.top) { operands = vs } ∷ map level_of x.callers) left);
      pending = refl;
      store = refl;
    } in
    record {
      goes = call_goes p x y c.args.func t zeros body called;
      stops = call_exhausts p x y c.args.func t zeros body called;
      of = of;
    }

pub returns-clause-lighter : goal.returns-clause-lighter
returns-clause-lighter c =
    let x = c.args.run.now in
    let y : Run = record x { top = c.replace-outer.new.dest; callers = c.push.new.self } in
    called_lighter x y c.args.func (record (level_of x.top) { operands = c.take.new.self }) refl
    (ap (map level_of) c.in_ok-push.ensures
    ∙ ap (λ (f : Frame). level_of f ∷ map level_of x.callers) c.replace-outer.ensures.value) refl
    (ap (λ (l : Level). length l.opens) (ap level_of c.replace-outer.ensures.after ∙ c.in_ok-inner.ensures))
