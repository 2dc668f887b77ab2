use Rattle.std.proofs.Common.{◌≡◌, List, drop, true, Some}
use Rattle.std.specs.Prelude.{slice_get}
use Rattle.wasm_ast.specs.Limits.{are_all}
use Rattle.wasm_ast.specs.declared.values.ValType.{ValType}
use Rattle.validator.specs.Inside.Algorithm.{is_label}
use Rattle.validator.proofs.needs.first_other.Given as goal

-- all are labels if the rest of them are
abbrev pub invariant-loop-label : goal.invariant-loop-label
invariant-loop-label l = record {
  labels : l.labels ≡ l.fn.labels;
  last : (types : List ValType) → slice_get l.fn.labels l.takes_them ≡ Some types
      → is_label l.fn.labels types l.last ≡ true;
  all : (types : List ValType) → slice_get l.fn.labels l.takes_them ≡ Some types
      → are_all (is_label l.fn.labels types) (drop l.label-index l.list)
      ≡ are_all (is_label l.fn.labels types) l.list;
}
