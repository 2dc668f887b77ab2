-- What the parts of the commands promise.
use Rattle.std.specs.Prelude.{◌≡◌, ℕ, ◌≤◌, List, length, take, Bool, Option, Some, MatchBool}
use Rattle.std.specs.Io.KnownBytes.{Appends}
use Rattle.wasm_ast.specs.declared.module.Module.{Module}
use Rattle.wasm_ast.specs.declared.place.Place.{Place}
use Rattle.wasm_ast.specs.declared.refusal.Refusal.{Refusal}
use Rattle.wasm_ast.specs.declared.refusal.Refusal.TheVariants as refusal
use Rattle.wasm_ast.specs.Syntax.{Op, simple, block, loop, if', Ops, stop, next}
use Rattle.wasm_binary.specs.Canonical.{FitsLimits}
use Rattle.text_assembler.specs.Lines.{HasAlignment}
use Rattle.validator.specs.Typing.{ValidModule}
use Rattle.validator.specs.Faults.{NamesFault}
use Rattle.oci_config.specs.declared.process.ProcessConfig.{ProcessConfig}
use Rattle.step_machine.specs.Instantiation.{instantiation_refusal}
use Rattle.step_machine.specs.MachineView.{MachineView}
use Rattle.file_commands.specs.declared.ran.Ran.{Ran}
use Rattle.file_commands.specs.Explained.{IsToldWhy}
use Rattle.file_commands.specs.Source.{IsSource, IsNoSource}
use Rattle.file_commands.specs.TaskRun.{Given, process_given, CanRun}

-- why `asm` is refused
pub data CannotAssemble (bytes : List ℕ) : Refusal → Type 0 where
  no_module : (e : Refusal) → IsNoSource bytes e → CannotAssemble bytes e
  too_long :
      (m : Module) → IsSource bytes m → (FitsLimits m → ⊥) → CannotAssemble bytes refusal.Limit

-- why `check` is refused
pub data CannotCheck (bytes : List ℕ) : Refusal → Type 0 where
  no_module : (e : Refusal) → IsNoSource bytes e → CannotCheck bytes e
  invalid : (m : Module) → (at : Option Place) → IsSource bytes m → NamesFault m at
      → CannotCheck bytes (refusal.Invalid at)

-- the exponents of alignments are below 32, inside blocks too
abbrev mutual
  pub OpAligned : Op → Type 0
  OpAligned (simple s) = HasAlignment s
  OpAligned (block type body) = OpsAligned body
  OpAligned (loop type body) = OpsAligned body
  OpAligned (if' type then_arm else_arm) = OpsAligned then_arm × OpsAligned else_arm

  pub OpsAligned : Ops → Type 0
  OpsAligned stop = Unit {0}
  OpsAligned (next o os) = OpAligned o × OpsAligned os

-- why a module is no task under a process
pub data CannotStart (m : Module) (p : ProcessConfig) : Refusal → Type 0 where
  not_valid : (at : Option Place) → NamesFault m at → CannotStart m p (refusal.Invalid at)
  not_instantiated :
      (e : Refusal) → ValidModule m → instantiation_refusal m p ≡ Some e → CannotStart m p e

-- the machine runs the module in a file with what the task is given
pub record IsOpened (bytes : List ℕ) (g : Given) (v : MachineView) : Type 0 where
  pub runs : CanRun bytes g v.module
  pub process : v.process ≡ process_given g

-- the same, or with the line of some reason if an explanation is wanted
abbrev pub IsTold : (explain : Bool) → (plain ran : Ran) → Type 0
IsTold explain plain ran = MatchBool explain (IsToldWhy plain ran) (ran ≡ plain)

-- of a stream, the first bytes, of this number, were appended to what a writer holds
abbrev pub IsCopied : (stream : List ℕ) → (count : ℕ) → (old new : Option (List ℕ)) → Type 0
IsCopied stream count old new = (count ≤ length stream) × Appends old new (take count stream)
