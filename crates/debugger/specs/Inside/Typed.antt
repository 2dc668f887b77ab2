-- Numbers as values of their types, and the operands that are known of open blocks.
use Rattle.std.specs.Prelude.{◌↔◌, ℕ, List, [], ◌∷◌, ◌++◌, reverse, Option, Some, None}
use Rattle.wasm_ast.specs.declared.values.ValType.{ValType}
use Rattle.wasm_ast.specs.declared.values.Value.{Value}
use Rattle.wasm_ast.specs.declared.module.Module.{Module}
use Rattle.wasm_ast.specs.Types.{value_of}
use Rattle.validator.specs.PlaceTypes.{Stack, Known, Point, ReachesAt, MatchPoint}

-- as many as have both a type and a number
abbrev pub values_of : List ValType → (numbers : List ℕ) → List Value
values_of [] ns = []
values_of (t ∷ ts) [] = []
values_of (t ∷ ts) (n ∷ ns) = value_of t n ∷ values_of ts ns

-- the types that are known
abbrev pub known_of : List (Option ValType) → List ValType
known_of [] = []
known_of (None ∷ ts) = known_of ts
known_of (Some t ∷ ts) = t ∷ known_of ts

-- those of the operands of blocks, of which the first is the innermost; the oldest operand's first
abbrev pub oldest_first : List Stack → List ValType
oldest_first [] = []
oldest_first (s ∷ ss) = oldest_first ss ++ known_of (reverse s.types)

-- what is known matches the points that the instructions before a place lead to, and no others, and
-- there is one
pub record AreTypesAt (m : Module) (func place : ℕ) (t : Known) : Type 0 where
  pub exact : (p : Point) → MatchPoint t p ↔ ReachesAt m func place p
  pub some : Point
  pub matches : MatchPoint t some
