use Rattle.std.proofs.Common.{sym, ◌∙◌}
use Rattle.text_assembler.proofs.Spaces.{not_in_space, at_place}
use Rattle.text_assembler.proofs.ids.IdsSpace.index_of.Goals as goal

pub returns-in-None : goal.returns-in-None
returns-in-None c =
    rw (sym c.self.view_is)
    (not_in_space c.self.inside.places c.self.inside.ids.items c.self.inside.nameless c.args.word.now
    c.self.invariant
    (sym c.is_id.ensures ∙ c.if-not-is_id.false) (sym c.get.ensures ∙ c.in-None.is))

pub returns-in-Some : goal.returns-in-Some
returns-in-Some c =
    let e =
    at_place c.self.inside.places c.self.inside.ids.items c.self.inside.nameless c.in-Some.place c.args.word.now
    c.self.invariant
    (sym c.is_id.ensures ∙ c.if-not-is_id.false) (sym c.get.ensures ∙ c.in-Some.is) in
    rw (sym c.self.view_is, e) c.small_index.ensures
