-- What the code keeps of a task and of a loan beside what a call can see.
use Rattle.std.specs.Prelude.{◌≡◌, ℕ, ◌+◌, List, Bool, true, false, Option, Some, None}
use Rattle.std.specs.Arc.{arc_value}
use Rattle.wasm_ast.specs.declared.module.Module.{Module}
use Rattle.oci_config.specs.declared.process.ProcessConfig.{ProcessConfig}
use Rattle.wasm_ast.specs.declared.place.Place.{Place}
use Rattle.step_machine.specs.MachineView.{MachineView}
use Rattle.step_machine.specs.Slices.{turns_made}
use Rattle.task_board.specs.declared.checkout.Checkout.{Checkout}
use Rattle.task_board.specs.declared.checkout.Shared.{Shared}
use Rattle.task_board.specs.BoardState.{Task}
use Rattle.task_lifecycle.specs.Lifecycle.{takes_turns}
use Rattle.task_board.specs.Loans.{Lent}
use Rattle.task_board.specs.Refusals.{Openable}
use Rattle.task_board.specs.Inside.Machines.{IsMachine}

-- what goes with a slice is this
pub record IsOwn (c : Checkout) (id bytes : List ℕ) (m : Module) (p : ProcessConfig)
    (breaks : List Place) : Type 0 where
  pub same_id : (arc_value c.shared).id ≡ id
  pub same_bytes : arc_value (arc_value c.shared).bytes ≡ bytes
  pub same_module : (arc_value c.shared).flat ≡ m
  pub same_process : (arc_value c.shared).process ≡ p
  pub same_breaks : arc_value c.breaks ≡ breaks

-- a task is out, and then it is running or pausing; or it is idle, with its machine
abbrev pub IsPlaced : Task → Option Checkout → (out : Option ℕ) → Type 0
IsPlaced t None (Some budget) = takes_turns t.status ≡ true
IsPlaced t (Some c) None = IsMachine c.machine.value t.module t.process t.turns
    × IsOwn c t.id t.bytes t.module t.process t.breaks
IsPlaced t c out = ⊥

abbrev pub IsKept : Task → Option Checkout → Type 0
IsKept t c = Openable t.bytes t.process t.module × IsPlaced t c t.out

-- a loan is of a task that shares this and has these breakpoints; the module is that of the bytes
abbrev pub SharesWith : Lent → Shared → (breaks : List Place) → Type 0
SharesWith l s breaks =
    (l.id ≡ s.id) × (l.bytes ≡ arc_value s.bytes) × (l.process ≡ s.process) × (l.breaks ≡ breaks)

-- the machine of a loan, before its slice is run and after
abbrev pub IsSlice : Lent → MachineView → (ran : Bool) → Type 0
IsSlice l r false = IsMachine r l.module l.process l.turns
IsSlice l r true = IsMachine r l.module l.process
    (l.turns + turns_made l.module l.process l.turns l.breaks l.budget)

abbrev pub IsLoan : Lent → MachineView → (ran : Bool) → Type 0
IsLoan l r ran = Openable l.bytes l.process l.module × IsSlice l r ran
