use Rattle.std.proofs.Common.{◌+◌, List, map, length, refl, ap, arith}
use Rattle.wasm_ast.specs.declared.values.Value.{Value}
use Rattle.step_machine.specs.Program.{program}
use Rattle.step_machine.specs.Configuration.{items_of, running}
use Rattle.step_machine.specs.Inside.Levels.{Level}
use Rattle.label_machine.specs.declared.run.Run.{Run}
use Rattle.label_machine.specs.declared.run.Doing.TheVariants.{Returns}
use Rattle.label_machine.specs.Inside.View.{ops_in, open_of, level_of}
use Rattle.label_machine.specs.Inside.Runs.{store_of, config, configured, given, tail_from, IsWithin, IsOf, GivesWithin, Leads}
use Rattle.label_machine.specs.Inside.Weights.{levels_weight, pending_weight, weight, IsLighter}
use Rattle.label_machine.proofs.SettleLemmas.{on_ok, leads_from, few_taken, frame_return, Left, return_leaves, pops_within, gives_within}
use Rattle.label_machine.proofs.WeightLemmas.{lighter_than, frame_lighter, popped_lighter}
use Rattle.label_machine.proofs.settle.return_from.Goals as goal

pub returns-in_default-clause-leads : goal.returns-in_default-clause-leads
returns-in_default-clause-leads c p =
    let x = c.args.run in
    let q = program c.args.of.now p in
    let vs : List Value = c.in_ok-results.results in
    let taken = c.in_ok-results.ensures.taken in
    let few = few_taken x.top.arity x.top.operands vs taken in
    let out = configured x.store (running (given vs (map level_of x.callers) (tail_from x.pending))) in
    on_ok (λ s. GivesWithin vs (map level_of x.callers) → IsOf q x.pending x.store → Leads q out s)
    (λ s. IsWithin x → IsOf q x.pending x.store → Leads q (config x Returns) s) c.give.result
    (λ s leads within of. leads_from q (config x Returns) out s
    (frame_return q x vs few c.in_default.ensures within
    (items_of x.top.ahead.place (ops_in x.top.ahead.rest.now)) taken) (leads (gives_within x vs few within) of))
    (c.give.ensures.leads p)

pub returns-in_default-clause-lighter : goal.returns-in_default-clause-lighter
returns-in_default-clause-lighter c =
    let x = c.args.run in
    let n = 1 + levels_weight (map level_of x.callers) + pending_weight x.pending in
    on_ok (IsLighter n) (IsLighter (weight x Returns)) c.give.result
    (λ s. lighter_than n (weight x Returns) s (frame_lighter x Returns)) c.give.ensures.lighter

pub returns-clause-leads : goal.returns-clause-leads
returns-clause-leads c p within of =
    let x = c.args.run in
    let t = x.top in
    let b = c.in-Some.label in
    let bs = c.pop.new.self in
    let f = c.in_ok-leave_block.field-0 in
    let y : Run = record x { top = f } in
    let q = program c.args.of.now p in
    let fits =
    pops_within x b bs f t.operands (open_of b).next_place (open_of b).rest (omega arith) c.in-Some.ensures
    c.in_ok-leave_block.ensures within in
    let left : Left t b bs y (store_of x.store) =
    record { labels = c.in-Some.ensures; top = c.in_ok-leave_block.ensures; store = refl; within = fits } in
    (return_leaves q t b bs y (store_of x.store) left (items_of t.ahead.place (ops_in t.ahead.rest.now)), fits, of)

pub returns-clause-lighter : goal.returns-clause-lighter
returns-clause-lighter c =
    popped_lighter c.args.run c.in-Some.label c.pop.new.self c.in_ok-leave_block.field-0 Returns Returns
    c.in-Some.ensures (ap (λ (l : Level). length l.opens) c.in_ok-leave_block.ensures) (omega arith)
