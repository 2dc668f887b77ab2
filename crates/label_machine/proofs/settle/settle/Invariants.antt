use Rattle.oci_config.specs.declared.process.ProcessConfig.{ProcessConfig}
use Rattle.step_machine.specs.Program.{program}
use Rattle.step_machine.specs.Configuration.{Configuration}
use Rattle.label_machine.specs.Inside.Runs.{LeadsTo}
use Rattle.label_machine.specs.Inside.Weights.{step_weight}
use Rattle.label_machine.proofs.settle.settle.Given as goal

abbrev pub invariant-loop-step : goal.invariant-loop-step
invariant-loop-step l =
    (p : ProcessConfig) (c : Configuration) → LeadsTo (program l.of p) c l.fn.from → LeadsTo (program l.of p) c l.step

abbrev pub decreases-loop-step : goal.decreases-loop-step
decreases-loop-step l = step_weight l.step
