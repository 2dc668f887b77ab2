use Rattle.std.proofs.Common.{◌≡◌, drop}
use Rattle.wasm_ast.specs.Limits.{are_all}
use Rattle.validator.specs.Inside.ModuleTests.{is_valid_segment}
use Rattle.validator.proofs.module_parts.are_valid_segments.Given as goal

-- all pass as the rest of them do
abbrev pub invariant-loop-segment : goal.invariant-loop-segment
invariant-loop-segment l =
    are_all (is_valid_segment l.of) (drop l.segment-index l.segments) ≡ are_all (is_valid_segment l.of) l.segments
