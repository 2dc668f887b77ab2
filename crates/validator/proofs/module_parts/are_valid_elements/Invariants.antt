use Rattle.std.proofs.Common.{◌≡◌, drop}
use Rattle.wasm_ast.specs.Limits.{are_all}
use Rattle.validator.specs.Inside.ModuleTests.{is_valid_element}
use Rattle.validator.proofs.module_parts.are_valid_elements.Given as goal

-- all pass as the rest of them do
abbrev pub invariant-loop-element : goal.invariant-loop-element
invariant-loop-element l =
    are_all (is_valid_element l.of) (drop l.element-index l.elements) ≡ are_all (is_valid_element l.of) l.elements
