use Rattle.std.proofs.Common.{List, ◌∷◌, map, take, drop, refl, ap, ◌∙◌}
use Rattle.wasm_ast.specs.declared.values.Value.{Value}
use Rattle.wasm_ast.specs.Syntax.{Ops}
use Rattle.label_machine.specs.declared.run.Run.{Run}
use Rattle.label_machine.specs.Inside.View.{ops_in, opened, open_of, level_of}
use Rattle.label_machine.specs.Inside.Turns.{Enters}
use Rattle.label_machine.proofs.execute.enter.Goals as goal

pub returns : goal.returns
returns c =
    let x = c.args.run in
    let a = c.args in
    let params : List Value = c.in_ok-params.params in
    let y : Run = record {
      top = record {
        arity = x.top.arity;
        func = x.top.func;
        locals = x.top.locals;
        labels = c.push.new.self;
        operands = params;
        ahead = record { place = a.first; rest = c.as_slice.result };
      };
      callers = x.callers;
      pending = x.pending;
      store = x.store;
    } in
    let enters : Enters x y a.taken a.arity a.place a.target a.first a.body.now = record {
      top =
          ap (λ cs. record (level_of x.top) {
            opens = map open_of cs;
            operands = params;
            place = a.first;
            rest = ops_in c.as_slice.result.now;
          }) c.in_ok-push.ensures
          ∙ (ap (λ (vs : List Value). record (level_of x.top) {
            opens = opened a.arity a.place vs a.target ∷ map open_of x.top.labels;
            operands = params;
            place = a.first;
            rest = ops_in c.as_slice.result.now;
          }) c.in_ok-params.ensures.left
          ∙ (ap (λ (vs : List Value). record (level_of x.top) {
            opens = opened a.arity a.place (drop a.taken x.top.operands) a.target ∷ map open_of x.top.labels;
            operands = vs;
            place = a.first;
            rest = ops_in c.as_slice.result.now;
          }) c.in_ok-params.ensures.taken
          ∙ ap (λ (os : Ops). record (level_of x.top) {
            opens = opened a.arity a.place (drop a.taken x.top.operands) a.target ∷ map open_of x.top.labels;
            operands = take a.taken x.top.operands;
            place = a.first;
            rest = os;
          }) c.as_slice.ensures));
      callers = refl;
      pending = refl;
      store = refl;
      process = refl;
    } in
    (y, c.limited.ensures, enters)
