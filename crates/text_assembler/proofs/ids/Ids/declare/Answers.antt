use Rattle.text_assembler.proofs.Spaces.{index_nameless}
use Rattle.text_assembler.proofs.ids.Ids.declare.Goals as goal

pub invariant_of-self-in-None : goal.invariant_of-self-in-None
invariant_of-self-in-None c =
    rw c.in_ok-push-in-None.ensures.items (index_nameless c.self.inside.places c.self.inside.ids.items c.self.invariant)
