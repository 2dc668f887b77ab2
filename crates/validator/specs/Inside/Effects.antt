-- What the checker does with what an instruction needs.
use Rattle.std.specs.Prelude.{◌≡◌, Bool, true, false, List, [], ◌∷◌, Option, Some}
use Rattle.wasm_ast.specs.declared.values.ValType.{ValType}
use Rattle.validator.specs.declared.needs.Needs.{Needs}
use Rattle.validator.specs.declared.needs.Needs.TheVariants as needs
use Rattle.validator.specs.declared.needs.Taken.{Taken}
use Rattle.validator.specs.declared.needs.Taken.TheVariants as taken
use Rattle.validator.specs.PlaceTypes.{Stack}
use Rattle.validator.specs.Inside.Algorithm.{replaced, leaves, after_i32, drops, joins}

abbrev pub step_of : Needs → Stack → Option Stack
step_of needs.Nothing s = Some s
step_of (needs.Gives t) s = replaced [] (t ∷ []) s
step_of (needs.Takes t) s = replaced (t ∷ []) [] s
step_of (needs.Converts t u) s = replaced (t ∷ []) (u ∷ []) s
step_of (needs.Combines t u) s = replaced (t ∷ t ∷ []) (u ∷ []) s
step_of (needs.TakesTwo t u) s = replaced (t ∷ u ∷ []) [] s
step_of (needs.Replaces b) s = replaced b.params b.results s
step_of (needs.ReplacesAfterI32 b) s = after_i32 (replaced b.params b.results) s
step_of (needs.Leaves ts) s = leaves ts s
step_of (needs.LeavesAfterI32 ts) s = after_i32 (leaves ts) s
step_of needs.Drop s = drops s
step_of needs.Select s = after_i32 joins s

-- it is what a check does
abbrev pub Does : Needs → (Stack → Option Stack) → Type 0
Does n check = (s : Stack) → check s ≡ step_of n s

-- the operands are told as these types
abbrev pub AreTaken : (ts : List ValType) → (then_i32 : Bool) → Taken → Type 0
AreTaken ts then_i32 (taken.Types us i32) = (us.now ≡ ts) × (i32 ≡ then_i32)
AreTaken ts then_i32 taken.Any = ⊥
AreTaken ts then_i32 taken.Two = ⊥

-- which operands are taken is told
abbrev pub Tells : Needs → Taken → Type 0
Tells needs.Nothing r = AreTaken [] false r
Tells (needs.Gives t) r = AreTaken [] false r
Tells (needs.Takes t) r = AreTaken (t ∷ []) false r
Tells (needs.Converts t u) r = AreTaken (t ∷ []) false r
Tells (needs.Combines t u) r = AreTaken (t ∷ t ∷ []) false r
Tells (needs.TakesTwo t u) r = AreTaken (t ∷ u ∷ []) false r
Tells (needs.Replaces b) r = AreTaken b.params false r
Tells (needs.ReplacesAfterI32 b) r = AreTaken b.params true r
Tells (needs.Leaves ts) r = AreTaken ts false r
Tells (needs.LeavesAfterI32 ts) r = AreTaken ts true r
Tells needs.Drop r = r ≡ taken.Any
Tells needs.Select r = r ≡ taken.Two
