use Rattle.std.proofs.Common.{refl, ap, ◌∙◌}
use Rattle.validator.specs.Inside.Algorithm.{takes_types}
use Rattle.wasm_ast.proofs.SameTypes.{themselves}
use Rattle.validator.proofs.needs.first_other.Goals as goal

pub loop-label-init : goal.loop-label-init
loop-label-init c = record {
  labels = refl;
  last = λ types there. ap (takes_types types) there ∙ themselves types;
  all = λ types there. refl;
}
