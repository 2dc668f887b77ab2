-- Which function instances the machine's are.
use Rattle.std.specs.Prelude.{◌≡◌, ℕ, List, [], ◌++◌, map, length, Some, slice_get}
use Rattle.wasm_ast.specs.declared.values.Value.{Value}
use Rattle.wasm_ast.specs.declared.values.FuncType.{FuncType}
use Rattle.wasm_ast.specs.declared.module.Module.{Module}
use Rattle.wasm_ast.specs.Syntax.{Ops}
use Rattle.wasm_ast.specs.Types.{zero_of}
use Rattle.step_machine.specs.Program.{Function, host, own, functions}
use Rattle.step_machine.specs.Inside.Levels.{Level}
use Rattle.label_machine.specs.declared.callee.Callee.{Callee}
use Rattle.label_machine.specs.declared.callee.Callee.TheVariants.{System, Own}

abbrev pub function_of : Callee → Function
function_of (System call) = host call
function_of (Own t f) = own t.now (map zero_of f.now.locals) f.now.body

-- a frame of a function of the module's own before its first instruction, called with these arguments
abbrev pub called_with : FuncType → (func : ℕ) → (args zeros : List Value) → (body : Ops) → Level
called_with t func args zeros body = record {
  arity = length t.results;
  func = func;
  locals = args ++ zeros;
  opens = [];
  operands = [];
  place = 0;
  rest = body;
}

pub record IsCallOf (m : Module) (func : ℕ) (t : FuncType) (args : List Value) (l : Level) :
    Type 0 where
  pub zeros : List Value
  pub body : Ops
  pub is : slice_get (functions m) func ≡ Some (own t zeros body)
  pub level : l ≡ called_with t func args zeros body
