use Rattle.validator.proofs.PackedLemmas.{rows_of_front}
use Rattle.validator.proofs.type_list.TypeList.first.Goals as goal

pub invariant_of-result : goal.invariant_of-result
invariant_of-result c = rows_of_front c.self.inside.rows.now c.args.count c.self.inside.types.now c.self.invariant
