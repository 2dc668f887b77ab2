-- Where instructions end.
use Rattle.std.specs.Prelude.{ℕ, ◌+◌, List, [], ◌∷◌}
use Rattle.wasm_ast.specs.declared.instr.Instr.{Instr}
use Rattle.wasm_ast.specs.Syntax.{count}
use Rattle.wasm_ast.specs.View.{op_of}
use Rattle.label_machine.specs.declared.label.Target.{Target}
use Rattle.label_machine.specs.declared.label.Target.TheVariants.{After, Again}

-- the place after the first of these instructions, which has this place
abbrev pub first_end : (place : ℕ) → List Instr → ℕ
first_end k [] = k
first_end k (i ∷ is) = k + count (op_of i)

-- the instructions from a loop on, if it is one
abbrev pub repeated : Target → List Instr
repeated (After a) = []
repeated (Again is) = is.now
