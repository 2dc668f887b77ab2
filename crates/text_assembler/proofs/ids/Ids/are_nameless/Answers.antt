use Rattle.std.proofs.Common.{sym, ap, ◌∙◌}
use Rattle.text_assembler.specs.Names.{Ids}
use Rattle.text_assembler.specs.Instructions.{are_nameless}
use Rattle.text_assembler.proofs.Spaces.{nameless_after}
use Rattle.text_assembler.proofs.ids.Ids.are_nameless.Goals as goal

pub loop-rest-init : goal.loop-rest-init
loop-rest-init c =
    rw (sym c.self.view_is)
    (ap (λ (ids : Ids). are_nameless ids) c.as_slice-rest.ensures.value
    ∙ sym (nameless_after c.self.inside.nameless c.self.inside.ids.items))
