use Rattle.std.proofs.Common.{◌≡◌, ◌++◌, map, drop}
use Rattle.wasm_ast.specs.declared.values.Value.{Value}
use Rattle.serde_json.specs.Data.{string}
use Rattle.request_lines.specs.Reply.{value_text}
use Rattle.serde_json.specs.View.{view}
use Rattle.request_lines.proofs.frame_value.values_value.Given as goal

-- those before are in the list
abbrev pub invariant-loop-value : goal.invariant-loop-value
invariant-loop-value l =
    map (λ (v : Value). string (value_text v)) l.values
    ≡ map view l.list.items ++ map (λ (v : Value). string (value_text v)) (drop l.value-index l.values)
