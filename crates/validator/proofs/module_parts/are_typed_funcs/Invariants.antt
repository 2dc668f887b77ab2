use Rattle.std.proofs.Common.{◌≡◌, drop}
use Rattle.wasm_ast.specs.Limits.{are_all}
use Rattle.validator.specs.Inside.ModuleTests.{is_typed_func}
use Rattle.validator.proofs.module_parts.are_typed_funcs.Given as goal

-- all pass as the rest of them do
abbrev pub invariant-loop-func : goal.invariant-loop-func
invariant-loop-func l =
    are_all (is_typed_func l.types) (drop l.func-index l.funcs) ≡ are_all (is_typed_func l.types) l.funcs
