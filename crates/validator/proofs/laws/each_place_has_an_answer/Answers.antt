use Rattle.validator.proofs.EachOfModules.{each_is, is_each}
use Rattle.validator.proofs.laws.each_place_has_an_answer.Goals as goal

pub returns : goal.returns
returns c = λ ns. (each_is ns, is_each ns)
