-- What is known of a place, and what it says of a frame that is there.
use Rattle.std.specs.Prelude.{◌≡◌, ℕ, ◌++◌, ◌↔◌, [], reverse, Some, slice_get}
use Rattle.wasm_ast.specs.declared.values.FuncType.{FuncType}
use Rattle.wasm_ast.specs.declared.module.Func.{Func}
use Rattle.wasm_ast.specs.declared.module.Module.{Module}
use Rattle.validator.specs.PlaceTypes.{Point, ReachesAt, IsOwn, IsPlace}
use Rattle.step_machine.specs.Frames.{FrameValue, joined, Tells}
use Rattle.step_machine.specs.Places.{opens_at}
use Rattle.wasm_ast.specs.declared.shown.ShownFrame.{ShownFrame}
use Rattle.debugger.specs.declared.known_places.KnownPlace.{KnownPlace}

-- it is right: by the function's type and declarations, and by the one point that the place is reached with
pub record IsKnown (m : Module) (k : KnownPlace) : Type 0 where
  pub locals :
      (own : Func) (t : FuncType) → IsOwn m k.func own → slice_get m.types own.type_index ≡ Some t
      → k.locals.items ≡ t.params ++ own.locals
  pub operands : (point : Point) → ((p : Point) → ReachesAt m k.func k.place p ↔ (p ≡ point))
      → k.operands.items ≡ reverse (joined point.stacks)
  pub blocks : (own : Func) → IsOwn m k.func own → k.blocks.items ≡ opens_at own.body 0 [] k.place

-- the frame that is shown so, and of which these are the words, is there
pub record IsThere (m : Module) (k : KnownPlace) (w : FrameValue) (f : ShownFrame) : Type 0 where
  pub known : IsKnown m k
  pub told : Tells m w f
  pub func : k.func ≡ w.func
  pub place : k.place ≡ w.place

-- a frame may be at this place of a function, which has a type
pub record HasFrame (m : Module) (func place : ℕ) : Type 0 where
  pub own : Func
  pub type : FuncType
  pub is_own : IsOwn m func own
  pub is_type : slice_get m.types own.type_index ≡ Some type
  pub is_place : IsPlace m func place
