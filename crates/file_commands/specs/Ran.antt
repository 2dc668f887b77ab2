-- What a command writes and its status, whatever it was asked to do.
use Rattle.std.specs.Prelude.{ℕ, List, [], ◌∷◌, ◌++◌, Some, codes, decimal}
use Rattle.wasm_ast.specs.declared.refusal.Refusal.{Refusal}
use Rattle.wasm_ast.specs.declared.refusal.Refusal.TheVariants as refusal
use Rattle.wasm_ast.specs.Names.{refusal_number, refusal_name}
use Rattle.file_commands.specs.declared.ran.Ran.{Ran}

-- a text, and the line feed that ends its line
abbrev pub line : List ℕ → List ℕ
line text = text ++ 10 ∷ []

abbrev pub succeeded : (out : List ℕ) → Ran
succeeded out = record { out = out; err = []; status = 0 }

-- `refused NUMBER NAME`
abbrev pub refusal_text : Refusal → List ℕ
refusal_text e = codes "refused " ++ decimal (refusal_number e) ++ codes " " ++ refusal_name e

-- where the fault of a body is
abbrev pub place_text : Refusal → List ℕ
place_text (refusal.Invalid (Some p)) =
    codes " func " ++ decimal p.func ++ codes " place " ++ decimal p.instr
place_text _ = []

-- where the fault of a text or of a body is
abbrev pub fault_text : Refusal → List ℕ
fault_text (refusal.BadText at_line column) =
    codes " line " ++ decimal at_line ++ codes " column " ++ decimal column
fault_text e = place_text e

-- `asm` and `check` were refused
abbrev pub refused : Refusal → Ran
refused e = record { out = []; err = line (refusal_text e ++ fault_text e); status = 3 }

-- `run` was refused, before its task existed
abbrev pub refused_run : Refusal → Ran
refused_run e = record { out = []; err = line (refusal_text e ++ place_text e); status = 125 }
