-- Machines as contracts see them.
use Rattle.std.specs.Prelude.{◌≡◌, ℕ}
use Rattle.wasm_ast.specs.declared.module.Module.{Module}
use Rattle.oci_config.specs.declared.process.ProcessConfig.{ProcessConfig}
use Rattle.step_machine.specs.MachineView.{MachineView}

-- a machine of this module and process after that number of turns
abbrev pub IsMachine : MachineView → Module → ProcessConfig → (turns : ℕ) → Type 0
IsMachine r m p turns = r ≡ record { «module» = m; process = p; turns = turns }
