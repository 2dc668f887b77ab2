-- What `check` writes.
use Rattle.std.specs.Prelude.{ℕ, ◌+◌, List, [], ◌∷◌, ◌++◌, length, Bool, true, false, codes, decimal, if◌then◌else◌, Option}
use Rattle.wasm_ast.specs.declared.module.Func.{Func}
use Rattle.wasm_ast.specs.declared.module.Module.{Module}
use Rattle.wasm_ast.specs.declared.place.Place.{Place}
use Rattle.wasm_ast.specs.declared.refusal.Refusal.{Refusal}
use Rattle.wasm_ast.specs.declared.refusal.Refusal.TheVariants as refusal
use Rattle.wasm_ast.specs.Syntax.{Op, simple, block, loop, if', Ops, stop, next, count, ops_count}
use Rattle.text_assembler.specs.Lines.{line_of}
use Rattle.validator.specs.Typing.{ValidModule}
use Rattle.validator.specs.Faults.{NamesFault}
use Rattle.file_commands.specs.declared.ran.Ran.{Ran}
use Rattle.file_commands.specs.Source.{IsSource, IsNoSource}
use Rattle.file_commands.specs.Ran.{line, succeeded, refused}
use Rattle.file_commands.specs.TaskRun.{Given, CannotRun, CanRun}

-- ---- the list of instructions

-- `FUNC PLACE TEXT`
abbrev pub instr_line : (func place : ℕ) → Op → List ℕ
instr_line func place o =
    line (decimal func ++ codes " " ++ decimal place ++ codes " " ++ line_of o)

-- a line for each instruction from this place on, those inside blocks included, in the order of places
abbrev mutual
  pub op_lines : (func place : ℕ) → Op → List ℕ
  op_lines func place (simple s) = instr_line func place (simple s)
  op_lines func place (block type body) =
      instr_line func place (block type body) ++ ops_lines func (place + 1) body
  op_lines func place (loop type body) =
      instr_line func place (loop type body) ++ ops_lines func (place + 1) body
  op_lines func place (if' type then_arm else_arm) =
      instr_line func place (if' type then_arm else_arm) ++ (ops_lines func (place + 1) then_arm
      ++ ops_lines func (place + 1 + ops_count then_arm) else_arm)

  pub ops_lines : (func place : ℕ) → Ops → List ℕ
  ops_lines func place stop = []
  ops_lines func place (next o os) = op_lines func place o ++ ops_lines func (place + count o) os

-- those of functions, of which the first has this index
abbrev pub func_lines : (func : ℕ) → List Func → List ℕ
func_lines func [] = []
func_lines func (f ∷ fs) = ops_lines func 0 f.body ++ func_lines (func + 1) fs

-- those of a module's own functions, whose indices follow those of its imports (2.5.1)
abbrev pub listing : Module → List ℕ
listing m = func_lines (length m.imports) m.funcs

-- ---- what `check` writes

abbrev pub list_if : Bool → Module → List ℕ
list_if list m = if list then listing m else []

pub data IsChecked (bytes : List ℕ) (list : Bool) : Ran → Type 0 where
  -- the file has a valid module
  valid : (m : Module) → IsSource bytes m → ValidModule m
      → IsChecked bytes list (succeeded (line (codes "ok") ++ list_if list m))
  -- it has one that is not valid, and the place is that of a fault of it
  invalid : (m : Module) → (at : Option Place) → IsSource bytes m → NamesFault m at
      → IsChecked bytes list (refused (refusal.Invalid at))
  no_module : (e : Refusal) → IsNoSource bytes e → IsChecked bytes list (refused e)

-- what `check --task` writes: whether `run` could make a task of the file
pub data IsTaskChecked (bytes : List ℕ) (g : Given) (list : Bool) : Ran → Type 0 where
  task : (m : Module) → CanRun bytes g m
      → IsTaskChecked bytes g list (succeeded (line (codes "ok") ++ list_if list m))
  no_task : (e : Refusal) → CannotRun bytes g e → IsTaskChecked bytes g list (refused e)

-- what a check writes for a file with this name and these bytes, with or without a task under this limit
abbrev pub IsCheck : (task : Bool) → (name bytes : List ℕ) → Bool → Option ℕ → Ran → Type 0
IsCheck false name bytes list limit = IsChecked bytes list
IsCheck true name bytes list limit =
    IsTaskChecked bytes (record { args = name ∷ []; env = []; limit = limit }) list
