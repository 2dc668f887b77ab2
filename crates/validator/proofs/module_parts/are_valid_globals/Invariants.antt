use Rattle.std.proofs.Common.{◌≡◌, drop}
use Rattle.wasm_ast.specs.Limits.{are_all}
use Rattle.validator.specs.Inside.ModuleTests.{is_valid_global}
use Rattle.validator.proofs.module_parts.are_valid_globals.Given as goal

-- all pass as the rest of them do
abbrev pub invariant-loop-global : goal.invariant-loop-global
invariant-loop-global l = are_all is_valid_global (drop l.global-index l.globals) ≡ are_all is_valid_global l.globals
