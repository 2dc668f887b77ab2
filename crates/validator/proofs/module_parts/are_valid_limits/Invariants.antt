use Rattle.std.proofs.Common.{◌≡◌, drop}
use Rattle.wasm_ast.specs.Limits.{are_all}
use Rattle.validator.specs.Inside.ModuleTests.{are_valid_limits}
use Rattle.validator.proofs.module_parts.are_valid_limits.Given as goal

-- all pass as the rest of them do
abbrev pub invariant-loop-limit : goal.invariant-loop-limit
invariant-loop-limit l =
    are_all (are_valid_limits l.range) (drop l.limit-index l.limits) ≡ are_all (are_valid_limits l.range) l.limits
