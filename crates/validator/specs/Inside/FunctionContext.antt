-- The context of an instruction in a function's body.
use Rattle.std.specs.Prelude.{Bool, List, [], ◌++◌}
use Rattle.wasm_ast.specs.declared.values.ValType.{ValType}
use Rattle.validator.specs.declared.function.Function.{Function}
use Rattle.wasm_ast.specs.declared.values.FuncType.{FuncType}
use Rattle.validator.specs.declared.block_types.BlockTypes.{BlockTypes}
use Rattle.wasm_ast.specs.declared.module.Func.{Func}
use Rattle.wasm_ast.specs.declared.module.Module.{Module}
use Rattle.validator.specs.Typing.{Context, body_context}
use Rattle.validator.specs.Inside.Algorithm.{start, ends, check_ops}

-- the types of a function's locals, its parameters first
abbrev pub locals_of : Function → List ValType
locals_of f = f.func_type.now.params ++ f.func.now.locals

-- inside these labels
abbrev pub context_of : Function → List (List ValType) → Context
context_of f labels = record (body_context f.of.now f.func_type.now f.func.now) { labels = labels }

-- the check of a function's body passes
abbrev pub passes_func : Module → FuncType → Func → Bool
passes_func m t f = ends t.results (check_ops (body_context m t f) f.body (start []))

-- a block's type as the checker holds it
abbrev pub func_type_of : BlockTypes → FuncType
func_type_of b = record { params = b.params; results = b.results }
