-- What the checker holds of all blocks that are open, and what a step does to it.
use Rattle.std.specs.Prelude.{◌≡◌, ◌++◌, ◌∷◌, ◌-◌, Bool, true, false, List, [], length, reverse, take, map, Option, Some, None}
use Rattle.wasm_ast.specs.declared.values.ValType.{ValType}
use Rattle.validator.specs.declared.groups.Group.{Group}
use Rattle.validator.specs.declared.operands.Outer.{Outer}
use Rattle.validator.specs.PlaceTypes.{Stack}
use Rattle.validator.specs.Inside.Algorithm.{knowns, with_types}

-- the types of a group's operands, the newest first
abbrev pub group_types : Group → List (Option ValType)
group_types g = g.newest ∷ knowns (reverse g.below)

-- those of groups, the newest group last
abbrev pub joined : List (List (Option ValType)) → List (Option ValType)
joined [] = []
joined (types ∷ groups) = joined groups ++ types

abbrev pub types_of : List Group → List (Option ValType)
types_of gs = joined (map group_types gs)

-- operands of these types, in written order, in place of the last group
abbrev pub LastLeaves : List ValType → (old new : List Group) → Type 0
LastLeaves ts old new =
    (own : List Group) × (new ≡ take (length old - 1) old ++ own)
    × (types_of own ≡ knowns (reverse ts))

-- the types of the operands of the blocks outside, in groups, the newest last, and the stack of the
-- innermost block
pub record Blocks : Type 0 where
  pub outside : List (List (Option ValType))
  pub stack : Stack

-- the same with other operands in the innermost block
abbrev pub with_operands : Blocks → List (Option ValType) → Blocks
with_operands o xs = record { outside = o.outside; stack = with_types o.stack xs }

-- operands are taken, or cannot be
abbrev pub Takes :
    (took : Bool) → (Bool → List (Option ValType) → Option (List (Option ValType)))
    → (old new : Blocks) → Type 0
Takes true takes old new = takes old.stack.unreachable old.stack.types ≡ Some new.stack.types
Takes false takes old new = takes old.stack.unreachable old.stack.types ≡ None

-- nothing changes but the operands of the innermost block
abbrev pub KeepsRest : (old new : Blocks) → Type 0
KeepsRest old new = new ≡ with_operands old new.stack.types

-- a check of the innermost block leads from one stack to another
abbrev pub Leads : (Stack → Option Stack) → (old new : Blocks) → Type 0
Leads check old new = (check old.stack ≡ Some new.stack) × (new.outside ≡ old.outside)

-- what is kept of the block outside, where all groups outside the one inside it are these
abbrev pub IsOuter : Outer → Blocks → (groups : List (List (Option ValType))) → Type 0
IsOuter w o groups =
    (w.base ≡ length o.outside) × (w.unreachable ≡ o.stack.unreachable)
    × (own : List (List (Option ValType))) × (groups ≡ o.outside ++ own)
    × (joined own ≡ o.stack.types)
