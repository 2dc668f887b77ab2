-- What a machine tells of a frame: numbers without types, and the place that gives them their types.
use Rattle.std.specs.Prelude.{◌≡◌, ℕ, ◌++◌, ◌↔◌, List, [], ◌∷◌, map, reverse, All, Option, Some, slice_get}
use Rattle.wasm_ast.specs.declared.values.ValType.{ValType}
use Rattle.wasm_ast.specs.declared.values.Value.{Value}
use Rattle.wasm_ast.specs.declared.values.Value.TheVariants.{I32, I64}
use Rattle.wasm_ast.specs.declared.values.FuncType.{FuncType}
use Rattle.wasm_ast.specs.declared.module.Func.{Func}
use Rattle.wasm_ast.specs.declared.module.Module.{Module}
use Rattle.wasm_ast.specs.Types.{type_of}
use Rattle.wasm_ast.specs.Ranged.{RangedValue}
use Rattle.validator.specs.PlaceTypes.{Point, ReachesAt, IsOwn, IsPlace}
use Rattle.step_machine.specs.Places.{opens_at}
use Rattle.wasm_ast.specs.declared.shown.ShownFrame.{ShownFrame}

-- a frame of a machine
pub record FrameValue : Type 0 where
  pub func : ℕ
  -- as it is shown
  pub next : Option ℕ
  -- the instruction before which its operands were those of now, and those that it took: the next one of
  -- the innermost frame, and the call of one that has called
  pub place : ℕ
  -- its locals, and then its operands, the oldest first
  pub words : List ℕ

abbrev pub number : Value → ℕ
number (I32 n) = n
number (I64 n) = n

-- lists in one
abbrev pub joined : List (List ValType) → List ValType
joined [] = []
joined (ts ∷ tss) = ts ++ joined tss

-- it is what a machine tells of the frame that is shown so
pub record Tells (m : Module) (w : FrameValue) (f : ShownFrame) : Type 0 where
  pub func : w.func ≡ f.func
  pub next : w.next ≡ f.next
  pub words : w.words ≡ map number (f.locals ++ f.operands)
  pub ranged : All RangedValue (f.locals ++ f.operands)
  -- its function, whose type and declarations are those of its locals
  pub own : Func
  pub type : FuncType
  pub is_own : IsOwn m f.func own
  pub is_type : slice_get m.types own.type_index ≡ Some type
  pub locals_typed : map type_of f.locals ≡ type.params ++ own.locals
  -- the body leads to that place with one list of operands and no other: its own, below what was taken
  pub is_place : IsPlace m f.func w.place
  pub point : Point
  pub exact : (p : Point) → ReachesAt m f.func w.place p ↔ (p ≡ point)
  pub taken : List ValType
  pub operands_typed : joined point.stacks ≡ taken ++ reverse (map type_of f.operands)
  -- the blocks that are open there
  pub labels : f.labels ≡ opens_at own.body 0 [] w.place
