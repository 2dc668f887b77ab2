-- What is known of a valid module that is run.
use Rattle.std.specs.Prelude.{◌≡◌, ℕ, ◌<◌, ◌^◌, All, Some}
use Rattle.wasm_ast.specs.declared.module.Func.{Func}
use Rattle.wasm_ast.specs.declared.module.Module.{Module}
use Rattle.wasm_ast.specs.Syntax.{ops_count}
use Rattle.oci_config.specs.declared.process.ProcessConfig.{ProcessConfig}
use Rattle.step_machine.specs.Program.{program}
use Rattle.step_machine.specs.Instantiation.{entry, after}
use Rattle.label_machine.specs.Inside.Runs.{IsInvalid, IsPending, MayBePending}

-- 32 bits number its instructions
abbrev pub IsNumbered : Func → Type 0
IsNumbered f = ops_count f.body < 2 ^ 32

-- what is invoked outside all frames takes nothing
pub record AreInvoked (m : Module) (p : ProcessConfig) : Type 0 where
  pub start : MayBePending (program m p) m.start
  pub entry : (func : ℕ) → entry m ≡ Some func → IsPending (program m p) func

pub record IsSound (m : Module) (p : ProcessConfig) : Type 0 where
  pub always : (n : ℕ) → IsInvalid (after m p n) → ⊥
  pub numbered : All IsNumbered m.funcs
