-- What the outcome of a check of an instruction says of a sequence that it is in.
use Rattle.std.specs.Prelude.{◌≡◌, ◌≤◌, ◌+◌, ℕ, length, Option, Some, None}
use Rattle.wasm_ast.specs.declared.place.Place.{Place}
use Rattle.wasm_ast.specs.declared.module.Module.{Module}
use Rattle.validator.specs.declared.check_error.CheckError.{CheckError}
use Rattle.validator.specs.declared.check_error.CheckError.TheVariants as check
use Rattle.validator.specs.declared.check_error.BodyError.{BodyError}
use Rattle.validator.specs.declared.check_error.BodyError.TheVariants.{Invalid, Memory}

-- the instruction is the first one of the sequence
abbrev pub at_first : CheckError → BodyError
at_first check.Invalid = Invalid 0
at_first check.Memory = Memory

-- without the place
abbrev pub anywhere : BodyError → CheckError
anywhere (Invalid at) = check.Invalid
anywhere Memory = check.Memory

-- the same fault at a place that is at most this many further
abbrev pub IsLater : (by : ℕ) → (old new : BodyError) → Type 0
IsLater by (Invalid at) (Invalid k) = k ≤ at + by
IsLater by Memory Memory = Unit {0}
IsLater by _ _ = ⊥

-- the place of an error in the body of the module's own function with this number
abbrev pub IsAt : Module → (own : ℕ) → BodyError → Option Place → Type 0
IsAt m own error None = ⊥
IsAt m own error (Some p) = (p.func ≡ length m.imports + own) × (error ≡ Invalid p.instr)
