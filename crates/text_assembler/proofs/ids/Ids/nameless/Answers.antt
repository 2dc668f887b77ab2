use Rattle.std.proofs.Common.{refl}
use Rattle.text_assembler.specs.Names.{position}
use Rattle.text_assembler.proofs.ids.Ids.nameless.Goals as goal

pub invariant_of-result : goal.invariant_of-result
unfolding position
invariant_of-result c = λ name. rw (c.new-2.ensures name, c.new.ensures.items) refl
