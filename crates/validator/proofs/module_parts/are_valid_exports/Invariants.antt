use Rattle.std.proofs.Common.{◌≡◌, drop}
use Rattle.wasm_ast.specs.Limits.{are_all}
use Rattle.validator.specs.Inside.ModuleTests.{is_valid_export}
use Rattle.validator.proofs.module_parts.are_valid_exports.Given as goal

-- all pass as the rest of them do
abbrev pub invariant-loop-export : goal.invariant-loop-export
invariant-loop-export l =
    are_all (is_valid_export l.of) (drop l.export-index l.exports) ≡ are_all (is_valid_export l.of) l.exports
