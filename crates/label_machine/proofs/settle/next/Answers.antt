use Rattle.std.proofs.Common.{◌+◌, map, length, refl, sym, ap, ◌∙◌, arith}
use Rattle.step_machine.specs.Program.{program}
use Rattle.step_machine.specs.Configuration.{running}
use Rattle.step_machine.specs.Turns.{settled}
use Rattle.step_machine.specs.Inside.Levels.{Level}
use Rattle.label_machine.specs.declared.run.Run.{Run}
use Rattle.label_machine.specs.declared.run.Doing.TheVariants.{Next}
use Rattle.label_machine.specs.Inside.View.{open_of, level_of}
use Rattle.label_machine.specs.Inside.Runs.{store_of, config, configured, given, tail_from, IsWithin, IsOf, GivesWithin, Leads}
use Rattle.label_machine.specs.Inside.Weights.{levels_weight, pending_weight, weight, IsLighter}
use Rattle.label_machine.proofs.SettleLemmas.{on_ok, at_end, waits_here, none_left, leads_from, frame_done, Left, block_ends, pops_within, gives_within}
use Rattle.label_machine.proofs.WeightLemmas.{lighter_than, frame_lighter, popped_lighter}
use Rattle.label_machine.proofs.settle.next.Goals as goal

pub returns-then-not-is_empty-clause-leads : goal.returns-then-not-is_empty-clause-leads
returns-then-not-is_empty-clause-leads c p within of =
    let x = c.args.run in
    let some =
    waits_here (program c.args.of.now p) x x.top.ahead.rest.now refl
    (sym c.is_empty.ensures ∙ c.if-not-is_empty.true) in
    (some.0, within, of, some.1)

pub returns-in_default-clause-leads : goal.returns-in_default-clause-leads
returns-in_default-clause-leads c p =
    let x = c.args.run in
    let q = program c.args.of.now p in
    let vs = x.top.operands in
    let out = configured x.store (running (given vs (map level_of x.callers) (tail_from x.pending))) in
    on_ok (λ s. GivesWithin vs (map level_of x.callers) → IsOf q x.pending x.store → Leads q out s)
    (λ s. IsWithin x → IsOf q x.pending x.store → Leads q (config x Next) s) c.give.result
    (λ s leads within of. leads_from q (config x Next) out s
    (frame_done q x vs (omega arith) c.in_default.ensures within refl
    (none_left x.top.ahead.rest.now (sym c.is_empty.ensures ∙ c.if-not-is_empty.false)))
    (leads (gives_within x vs (omega arith) within) of))
    (c.give.ensures.leads p)

pub returns-in_default-clause-lighter : goal.returns-in_default-clause-lighter
returns-in_default-clause-lighter c =
    let x = c.args.run in
    let n = 1 + levels_weight (map level_of x.callers) + pending_weight x.pending in
    on_ok (IsLighter n) (IsLighter (weight x Next)) c.give.result
    (λ s. lighter_than n (weight x Next) s (frame_lighter x Next)) c.give.ensures.lighter

pub returns-clause-leads : goal.returns-clause-leads
returns-clause-leads c p within of =
    let x = c.args.run in
    let t = x.top in
    let b = c.in-Some.label in
    let bs = c.pop.new.self in
    let f = c.in_ok-leave_block.field-0 in
    let y : Run = record x { top = f } in
    let q = program c.args.of.now p in
    let none = none_left t.ahead.rest.now (sym c.is_empty.ensures ∙ c.if-not-is_empty.false) in
    let fits =
    pops_within x b bs f t.operands (open_of b).next_place (open_of b).rest (omega arith) c.in-Some.ensures
    c.in_ok-leave_block.ensures within in
    let left : Left t b bs y (store_of x.store) =
    record { labels = c.in-Some.ensures; top = c.in_ok-leave_block.ensures; store = refl; within = fits } in
    (ap (settled q) (at_end x none) ∙ block_ends q t b bs y (store_of x.store) left, fits, of)

pub returns-clause-lighter : goal.returns-clause-lighter
returns-clause-lighter c =
    popped_lighter c.args.run c.in-Some.label c.pop.new.self c.in_ok-leave_block.field-0 Next Next c.in-Some.ensures
    (ap (λ (l : Level). length l.opens) c.in_ok-leave_block.ensures) (omega arith)
