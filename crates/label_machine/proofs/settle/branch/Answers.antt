use Rattle.std.proofs.Common.{◌≡◌, ◌+◌, ◌-◌, suc, List, map, length, refl, ap, ◌∙◌, arith}
use Rattle.wasm_ast.specs.declared.values.Value.{Value}
use Rattle.step_machine.specs.Program.{program}
use Rattle.step_machine.specs.Configuration.{items_of, running}
use Rattle.step_machine.specs.Turns.{settled}
use Rattle.step_machine.specs.Inside.Levels.{Level}
use Rattle.label_machine.specs.declared.run.Run.{Run}
use Rattle.label_machine.specs.declared.run.Doing.TheVariants.{Next, Branches}
use Rattle.label_machine.specs.Inside.View.{ops_in, open_of, level_of}
use Rattle.label_machine.specs.Inside.Runs.{store_of, config, configured, given, tail_from, IsWithin, IsOf, GivesWithin, Leads}
use Rattle.label_machine.specs.Inside.Weights.{levels_weight, pending_weight, weight, IsLighter}
use Rattle.label_machine.proofs.SettleLemmas.{on_ok, leads_from, few_taken, frame_branch, Left, branch_leaves, Landed, branch_lands, pops_within, gives_within, branches_nowhere}
use Rattle.label_machine.specs.Inside.View.{goes_to}
use Rattle.std.proofs.Common.{take}
use Rattle.label_machine.proofs.WeightLemmas.{lighter_than, frame_lighter, popped_lighter}
use Rattle.label_machine.proofs.settle.branch.Goals as goal

pub returns-then-label-gt0-clause-leads : goal.returns-then-label-gt0-clause-leads
returns-then-label-gt0-clause-leads c p within of =
    branches_nowhere (program c.args.of.now p) c.args.run c.args.label c.in_default.ensures c.if-label-gt0.true

pub returns-in_default-clause-leads : goal.returns-in_default-clause-leads
returns-in_default-clause-leads c p =
    let x = c.args.run in
    let q = program c.args.of.now p in
    let vs : List Value = c.in_ok-results.results in
    let taken = c.in_ok-results.ensures.taken in
    let few = few_taken x.top.arity x.top.operands vs taken in
    let out = configured x.store (running (given vs (map level_of x.callers) (tail_from x.pending))) in
    let none = c.if-label-gt0.false in
    let zero : c.args.label ≡ 0 = omega (arith, none) in
    on_ok (λ s. GivesWithin vs (map level_of x.callers) → IsOf q x.pending x.store → Leads q out s)
    (λ s. IsWithin x → IsOf q x.pending x.store → Leads q (config x (Branches c.args.label)) s) c.give.result
    (λ s leads within of. leads_from q (config x (Branches c.args.label)) out s
    (ap (λ k. settled q (config x (Branches k))) zero
    ∙ frame_branch q x vs few c.in_default.ensures within
    (items_of x.top.ahead.place (ops_in x.top.ahead.rest.now)) taken) (leads (gives_within x vs few within) of))
    (c.give.ensures.leads p)

pub returns-in_default-clause-lighter : goal.returns-in_default-clause-lighter
returns-in_default-clause-lighter c =
    let x = c.args.run in
    let n = 1 + levels_weight (map level_of x.callers) + pending_weight x.pending in
    let d = Branches c.args.label in
    on_ok (IsLighter n) (IsLighter (weight x d)) c.give.result
    (λ s. lighter_than n (weight x d) s (frame_lighter x d)) c.give.ensures.lighter

pub returns-then-label-eq0-clause-leads : goal.returns-then-label-eq0-clause-leads
returns-then-label-eq0-clause-leads c p within of =
    let x = c.args.run in
    let t = x.top in
    let b = c.in-Some.innermost in
    let bs = c.pop.new.self in
    let f = c.in_ok-branch_to.field-0 in
    let y : Run = record x { top = f } in
    let q = program c.args.of.now p in
    let fits =
    pops_within x b bs f (take b.arity t.operands) (goes_to b.place b.target).0 (goes_to b.place b.target).1
    (few_taken b.arity t.operands (take b.arity t.operands) refl) c.in-Some.ensures c.in_ok-branch_to.ensures within in
    let landed : Landed t b bs y (store_of x.store) =
    record { labels = c.in-Some.ensures; top = c.in_ok-branch_to.ensures; store = refl; within = fits } in (
      ap (λ k. settled q (config x (Branches k))) c.if-label-eq0.true
          ∙ branch_lands q t b bs y (store_of x.store) landed (items_of t.ahead.place (ops_in t.ahead.rest.now)),
      fits,
      of,
    )

pub returns-then-label-eq0-clause-lighter : goal.returns-then-label-eq0-clause-lighter
returns-then-label-eq0-clause-lighter c =
    popped_lighter c.args.run c.in-Some.innermost c.pop.new.self c.in_ok-branch_to.field-0 (Branches c.args.label) Next
    c.in-Some.ensures (ap (λ (l : Level). length l.opens) c.in_ok-branch_to.ensures) (omega arith)

pub returns-clause-leads : goal.returns-clause-leads
returns-clause-leads c p within of =
    let x = c.args.run in
    let t = x.top in
    let b = c.in-Some.innermost in
    let bs = c.pop.new.self in
    let k = c.args.label - 1 in
    let f = c.in_ok-leave_block.field-0 in
    let y : Run = record x { top = f } in
    let q = program c.args.of.now p in
    let some = c.if-label-eq0.false in
    let more_by_one : c.args.label ≡ suc k = omega (arith, some) in
    let fits =
    pops_within x b bs f t.operands (open_of b).next_place (open_of b).rest (omega arith) c.in-Some.ensures
    c.in_ok-leave_block.ensures within in
    let left : Left t b bs y (store_of x.store) =
    record { labels = c.in-Some.ensures; top = c.in_ok-leave_block.ensures; store = refl; within = fits } in (
      ap (λ j. settled q (config x (Branches j))) more_by_one
          ∙ branch_leaves q t b bs y (store_of x.store) left k (items_of t.ahead.place (ops_in t.ahead.rest.now)),
      fits,
      of,
    )

pub returns-clause-lighter : goal.returns-clause-lighter
returns-clause-lighter c =
    popped_lighter c.args.run c.in-Some.innermost c.pop.new.self c.in_ok-leave_block.field-0 (Branches c.args.label)
    (Branches (c.args.label - 1)) c.in-Some.ensures (ap (λ (l : Level). length l.opens) c.in_ok-leave_block.ensures)
    (omega arith)
