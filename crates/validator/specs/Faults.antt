-- Where a module that is not valid is at fault.
use Rattle.std.specs.Prelude.{◌≤◌, Option, Some, None}
use Rattle.wasm_ast.specs.declared.place.Place.{Place}
use Rattle.wasm_ast.specs.declared.module.Func.{Func}
use Rattle.wasm_ast.specs.declared.module.Module.{Module}
use Rattle.wasm_ast.specs.declared.refusal.Refusal.{Refusal}
use Rattle.wasm_ast.specs.declared.refusal.Refusal.TheVariants as refusal
use Rattle.wasm_ast.specs.Syntax.{ops_count}
use Rattle.validator.specs.Typing.{ValidOutside, ValidBody}
use Rattle.validator.specs.PlaceTypes.{IsOwn}

-- a fault is named: outside the bodies, or the body of a function that has no typing, with the number of
-- one of its instructions, or of its end
abbrev pub NamesFault : Module → Option Place → Type 0
NamesFault m None = ValidOutside m → ⊥
NamesFault m (Some p) =
    (f : Func) × IsOwn m p.func f × (ValidBody m f → ⊥) × (p.instr ≤ ops_count f.body)

-- the refusal of a module that is not valid, wherever its fault is
abbrev pub IsInvalid : Refusal → Type 0
IsInvalid (refusal.Invalid at) = Unit {0}
IsInvalid _ = ⊥
