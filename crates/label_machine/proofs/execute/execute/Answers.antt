use Rattle.std.proofs.Common.{◌≡◌, ◌+◌, map, subst, sym, ap}
use Rattle.wasm_ast.specs.Syntax.{Ops}
use Rattle.wasm_ast.specs.View.{op_of}
use Rattle.step_machine.specs.Program.{program}
use Rattle.step_machine.specs.Configuration.{running}
use Rattle.step_machine.specs.Turns.{turn}
use Rattle.step_machine.specs.Inside.Levels.{tree_of}
use Rattle.step_machine.proofs.LevelSettling.{conf}
use Rattle.label_machine.specs.declared.run.Run.{Run}
use Rattle.label_machine.specs.declared.run.Doing.TheVariants as doing
use Rattle.label_machine.specs.Inside.View.{ops_in, level_of}
use Rattle.label_machine.specs.Inside.Runs.{store_of, tail_from, config, about_to, IsWithin, IsOf, LeadsTo}
use Rattle.label_machine.proofs.SettleLemmas.{on_ok}
use Rattle.label_machine.proofs.execute.execute.Goals as goal

pub returns : goal.returns
returns c p =
    let x = c.args.run in
    let q = program c.args.of.now p in
    let i = c.in-Some.instr.now in
    let rest = c.in-Some.rest in
    let place = x.top.ahead.place in
    let y : Run = record x { top = record x.top { ahead = record { place = place + c.unwrap.result; rest = rest } } } in
    let same : config x doing.Next ≡ about_to y place (op_of i) =
    ap (λ (os : Ops). conf (store_of x.store)
    (running (tree_of (record (level_of x.top) { rest = os }) (map level_of x.callers) (tail_from x.pending))))
    (ap ops_in c.in-Some.ensures.cases.0) in
    on_ok
    (λ s. IsWithin y → IsOf q y.pending y.store → LeadsTo q (turn q (about_to y place (op_of i))) s)
    (λ s. IsWithin x → IsOf q x.pending x.store → LeadsTo q (turn q (config x doing.Next)) s) c.run_instr.result
    (λ s leads within of. subst (λ d. LeadsTo q (turn q d) s) (sym same)
    (leads (record { values = within.values; frames = within.frames }) of))
    (c.run_instr.ensures p)
