use Rattle.std.proofs.Common.{◌≡◌, ◌+◌, ◌++◌, ◌∷◌, List, map, subst, refl, sym, ap, ◌∙◌, arith}
use Rattle.wasm_ast.specs.declared.values.Value.{Value}
use Rattle.step_machine.specs.Program.{program}
use Rattle.step_machine.specs.Configuration.{running, seq}
use Rattle.step_machine.specs.Turns.{settled}
use Rattle.step_machine.specs.Inside.Levels.{Level, tree_of}
use Rattle.label_machine.specs.declared.frame.Frame.{Frame}
use Rattle.label_machine.specs.declared.run.Run.{Run}
use Rattle.label_machine.specs.Inside.View.{level_of}
use Rattle.label_machine.specs.Inside.Runs.{configured, given, tail_from, IsOf, GivesWithin, Leads}
use Rattle.label_machine.specs.Inside.Weights.{levels_weight, pending_weight, IsLighter}
use Rattle.label_machine.proofs.SettleLemmas.{on_ok, given_within}
use Rattle.label_machine.proofs.WeightLemmas.{lighter_than, given_lighter}
use Rattle.label_machine.proofs.settle.give.Goals as goal

pub returns-in_default-clause-leads : goal.returns-in_default-clause-leads
returns-in_default-clause-leads c p =
    let o = c.args.outside in
    let vs : List Value = c.args.results in
    let q = program c.args.of.now p in
    let tail = tail_from o.pending in
    on_ok (λ s. IsOf q o.pending o.store → Leads q (configured o.store (running (seq vs tail))) s)
    (λ s. GivesWithin vs (map level_of o.callers) → IsOf q o.pending o.store
    → Leads q (configured o.store (running (given vs (map level_of o.callers) tail))) s)
    c.finish.result
    (λ s leads within of.
    subst (λ (fs : List Frame). Leads q (configured o.store (running (given vs (map level_of fs) tail))) s)
    (sym c.in_default.ensures) (leads of))
    (c.finish.ensures.leads p vs (sym c.len.ensures))

pub returns-in_default-clause-lighter : goal.returns-in_default-clause-lighter
returns-in_default-clause-lighter c =
    let o = c.args.outside in
    let n = 1 + pending_weight o.pending in
    let k = 1 + levels_weight (map level_of o.callers) + pending_weight o.pending in
    on_ok (IsLighter n) (IsLighter k) c.finish.result (λ s. lighter_than n k s (omega arith)) c.finish.ensures.lighter

pub returns-clause-leads : goal.returns-clause-leads
returns-clause-leads c p within of =
    let o = c.args.outside in
    let vs : List Value = c.args.results in
    let k = c.in-Some.top in
    let y : Run = record {
      top = record k { operands = c.put.new.self };
      callers = c.pop.new.self;
      pending = o.pending;
      store = o.store;
    } in
    let q = program c.args.of.now p in
    let are : map level_of o.callers ≡ level_of k ∷ map level_of y.callers = ap (map level_of) c.in-Some.ensures in
    let top : level_of y.top ≡ record (level_of k) { operands = vs ++ k.operands } =
    ap (λ (us : List Value). record (level_of k) { operands = us }) c.in_ok-put.ensures in
    let fits = given_within y vs k (map level_of y.callers) top refl (subst (GivesWithin vs) are within) in (
      ap (λ (ls : List Level). settled q (configured o.store (running (given vs ls (tail_from o.pending))))) are
          ∙ ap (λ (us : List Value). settled q (configured o.store
          (running (tree_of (record (level_of k) { operands = us }) (map level_of y.callers) (tail_from o.pending)))))
          (sym c.in_ok-put.ensures),
      fits,
      of,
    )

pub returns-clause-lighter : goal.returns-clause-lighter
returns-clause-lighter c =
    given_lighter (record {
      top = record c.in-Some.top { operands = c.put.new.self };
      callers = c.pop.new.self;
      pending = c.args.outside.pending;
      store = c.args.outside.store;
    }) c.args.outside.callers c.in-Some.top c.in-Some.ensures refl
