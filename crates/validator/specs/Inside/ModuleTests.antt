-- The rules of validity for the parts of a module but its functions and the names of exports, as tests.
use Rattle.std.specs.Prelude.{ℕ, ◌+◌, ◌^◌, nat_le, nat_lt, Bool, true, false, ◌&&◌, List, [], ◌∷◌, length, Option, Some, None}
use Rattle.wasm_ast.specs.declared.values.ValType.{ValType}
use Rattle.wasm_ast.specs.declared.values.ValType.TheVariants.{I32}
use Rattle.wasm_ast.specs.declared.values.FuncType.{FuncType}
use Rattle.wasm_ast.specs.declared.instr.Simple.TheVariants as instr
use Rattle.wasm_ast.specs.declared.module.Import.{Import}
use Rattle.wasm_ast.specs.declared.module.Func.{Func}
use Rattle.wasm_ast.specs.declared.module.Export.{Export}
use Rattle.wasm_ast.specs.declared.module.Limits.{Limits}
use Rattle.wasm_ast.specs.declared.module.Global.{Global}
use Rattle.wasm_ast.specs.declared.module.Element.{Element}
use Rattle.wasm_ast.specs.declared.module.Segment.{Segment}
use Rattle.wasm_ast.specs.declared.module.ExportKind.{ExportKind}
use Rattle.wasm_ast.specs.declared.module.ExportKind.TheVariants as kind
use Rattle.wasm_ast.specs.declared.module.Module.{Module}
use Rattle.wasm_ast.specs.Syntax.{simple, Ops, stop, next}
use Rattle.wasm_ast.specs.Types.{is_same_type, type_of, func_types, type_at}
use Rattle.wasm_ast.specs.Limits.{are_all}
use Rattle.validator.specs.Typing.{standard_pages}

abbrev pub is_typed_import : List FuncType → Import → Bool
is_typed_import types i = nat_lt i.type_index (length types)

abbrev pub is_typed_func : List FuncType → Func → Bool
is_typed_func types f = nat_lt f.type_index (length types)

abbrev pub is_valid_max : (range min : ℕ) → Option ℕ → Bool
is_valid_max range min None = true
is_valid_max range min (Some max) = nat_le max range && nat_le min max

abbrev pub are_valid_limits : (range : ℕ) → Limits → Bool
are_valid_limits range l = nat_le l.min range && is_valid_max range l.min l.max

abbrev pub is_constant : ValType → Ops → Bool
is_constant t (next (simple (instr.Const value)) stop) = is_same_type (type_of value) t
is_constant t _ = false

abbrev pub is_valid_global : Global → Bool
is_valid_global g = is_constant g.val_type g.init

abbrev pub is_function : Module → ℕ → Bool
is_function m index = nat_lt index (length m.imports + length m.funcs)

abbrev pub is_there : Module → ExportKind → ℕ → Bool
is_there m kind.Func index = is_function m index
is_there m kind.Table index = nat_lt index (length m.tables)
is_there m kind.Memory index = nat_lt index (length m.memories)
is_there m kind.Global index = nat_lt index (length m.globals)

abbrev pub is_valid_export : Module → Export → Bool
is_valid_export m e = is_there m e.kind e.index

abbrev pub is_nil : {A : Type 0} → List A → Bool
is_nil [] = true
is_nil (x ∷ xs) = false

-- a function that takes nothing and gives nothing
abbrev pub is_bare : Option FuncType → Bool
is_bare None = false
is_bare (Some t) = is_nil t.params && is_nil t.results

abbrev pub is_valid_start : Module → Option ℕ → Bool
is_valid_start m None = true
is_valid_start m (Some func) = is_bare (type_at (func_types m) func)

abbrev pub is_valid_element : Module → Element → Bool
is_valid_element m e =
    nat_lt e.table (length m.tables) && is_constant I32 e.offset && are_all (is_function m) e.funcs

abbrev pub is_valid_segment : Module → Segment → Bool
is_valid_segment m s = nat_lt s.memory (length m.memories) && is_constant I32 s.offset

abbrev pub is_alone : {A : Type 0} → List A → Bool
is_alone xs = nat_le (length xs) 1

-- imports, the types of functions, tables and memories
abbrev pub declares_validly : Module → Bool
declares_validly m =
    are_all (is_typed_import m.types) m.imports && are_all (is_typed_func m.types) m.funcs
    && is_alone m.tables
    && are_all (are_valid_limits (2 ^ 32)) m.tables && is_alone m.memories
    && are_all (are_valid_limits standard_pages) m.memories

-- globals, exports, the start function and segments
abbrev pub defines_validly : Module → Bool
defines_validly m =
    are_all is_valid_global m.globals && are_all (is_valid_export m) m.exports
    && is_valid_start m m.start
    && are_all (is_valid_element m) m.elements && are_all (is_valid_segment m) m.segments
