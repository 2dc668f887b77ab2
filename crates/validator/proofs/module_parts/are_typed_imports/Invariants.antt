use Rattle.std.proofs.Common.{◌≡◌, drop}
use Rattle.wasm_ast.specs.Limits.{are_all}
use Rattle.validator.specs.Inside.ModuleTests.{is_typed_import}
use Rattle.validator.proofs.module_parts.are_typed_imports.Given as goal

-- all pass as the rest of them do
abbrev pub invariant-loop-import : goal.invariant-loop-import
invariant-loop-import l =
    are_all (is_typed_import l.types) (drop l.import-index l.imports) ≡ are_all (is_typed_import l.types) l.imports
