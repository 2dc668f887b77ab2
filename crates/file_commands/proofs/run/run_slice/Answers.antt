use Rattle.std.proofs.Common.{◌<◌, ◌≤◌, ap, arith}
use Rattle.step_machine.specs.Limits.{last_turn}
use Rattle.step_machine.specs.MachineView.{MachineView}
use Rattle.step_machine.specs.Slices.{turns_made}
use Rattle.file_commands.proofs.StreamLemmas.{slice_grows}
use Rattle.file_commands.proofs.run.run_slice.Goals as goal

pub returns-clause-same_module : goal.returns-clause-same_module
returns-clause-same_module c = ap (λ (w : MachineView). w.module) c.run.ensures.turns

pub returns-clause-same_process : goal.returns-clause-same_process
returns-clause-same_process c = ap (λ (w : MachineView). w.process) c.run.ensures.turns

pub returns-clause-fewer : goal.returns-clause-fewer
returns-clause-fewer c =
    let v = c.args.machine.now in
    let bs = c.args.none.now in
    let early : v.turns < last_turn = c.turns_are_limited.ensures v.module v.process v.turns c.requires in
    let some : 1 ≤ turns_made v.module v.process v.turns bs 1000000 =
    c.slices_go_forward.ensures.at_least v.module v.process v.turns bs 1000000 c.requires (omega arith) in
    let made = ap (λ (w : MachineView). w.turns) c.run.ensures.turns in
    omega (arith, early, some, made)

pub returns-clause-grown : goal.returns-clause-grown
returns-clause-grown c s = slice_grows c.args.machine.now c.run.new.self _ c.outputs_grow.ensures c.run.ensures.turns s
