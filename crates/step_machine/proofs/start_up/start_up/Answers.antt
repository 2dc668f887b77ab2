use Rattle.std.proofs.Common.{ℕ, List, [], ◌∷◌, ◌++◌, Option, Some, sym, ap, ◌∙◌}
use Rattle.std.specs.Prelude.{option_to_list}
use Rattle.step_machine.specs.Instantiation.{first_store}
use Rattle.step_machine.specs.Inside.FlatState.{Callee, begin}
use Rattle.step_machine.specs.Inside.FlatView.{flat_from, stepped_to}
use Rattle.step_machine.specs.Inside.Simulates.{Stored}
use Rattle.step_machine.proofs.StartLemmas.{going_first, begins_so}
use Rattle.step_machine.proofs.start_up.start_up.Goals as goal

pub returns-in-Some : goal.returns-in-Some
returns-in-Some c m p texts same facts codes all start is_entry stored =
    let f = c.invocations-first.result.0 in
    let fs = option_to_list c.invocations-first.result.1 in
    let x = flat_from c.args.at.now (record c.args.kept.now { pending = Some f }) in
    let order = c.invocations-first.ensures ∙ ap (λ (o : Option ℕ). option_to_list o ++ c.args.entry ∷ []) start in
    let there :
    Stored m x (first_store m p) =
    record {
      globals = stored.globals;
      memory = stored.memory;
      table = stored.table;
      out = stored.out;
      err =
          stored.err;
      globals_typed = stored.globals_typed;
      in_table = stored.in_table;
      ranged = stored.ranged;
    } in
    let step =
    ap (λ (cs : List Callee). begin cs (f ∷ []) x) (sym all)
    ∙ (c.begin.ensures.leaves.step ∙ ap (λ o. stepped_to o (flat_from c.begin.new.at c.begin.new.kept)) c.in-Some.is) in
    absurd (begins_so m p facts x f fs c.args.entry order is_entry there same texts c.in-Some.end step)

pub returns : goal.returns
returns c m p texts same facts codes all start is_entry stored =
    let f = c.invocations-first.result.0 in
    let fs = option_to_list c.invocations-first.result.1 in
    let x = flat_from c.args.at.now (record c.args.kept.now { pending = Some f }) in
    let order = c.invocations-first.ensures ∙ ap (λ (o : Option ℕ). option_to_list o ++ c.args.entry ∷ []) start in
    let there :
    Stored m x (first_store m p) =
    record {
      globals = stored.globals;
      memory = stored.memory;
      table = stored.table;
      out = stored.out;
      err =
          stored.err;
      globals_typed = stored.globals_typed;
      in_table = stored.in_table;
      ranged = stored.ranged;
    } in
    let step =
    ap (λ (cs : List Callee). begin cs (f ∷ []) x) (sym all)
    ∙ (c.begin.ensures.leaves.step ∙ ap (λ o. stepped_to o (flat_from c.begin.new.at c.begin.new.kept)) c.in_default.is)
    in
    c.settle.ensures m p 0 facts codes all
    (going_first m p facts x f fs c.args.entry order is_entry there same texts
    (flat_from c.begin.new.at c.begin.new.kept) step)
