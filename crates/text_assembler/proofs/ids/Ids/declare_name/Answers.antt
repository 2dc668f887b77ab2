use Rattle.std.proofs.Common.{sym, ap, ◌∙◌, is_some}
use Rattle.text_assembler.specs.Inside.Spaces.{place_of}
use Rattle.text_assembler.specs.Names.{Name}
use Rattle.text_assembler.proofs.Spaces.{is_there, is_added, index_added}
use Rattle.text_assembler.proofs.ids.Ids.declare_name.Goals as goal

pub returns-then-is_some : goal.returns-then-is_some
returns-then-is_some c =
    let there =
    ap (λ (x : Name). is_some (place_of c.self.inside.places x)) (sym c.as_slice.ensures)
    ∙ ap is_some (sym c.get.ensures) ∙ sym c.is_some.ensures ∙ c.if-is_some.true in
    rw (sym c.self.view_is)
    (is_there c.self.inside.places c.self.inside.ids.items c.self.inside.nameless c.args.name
    c.self.invariant there)

pub invariant_of-self-2 : goal.invariant_of-self-2
invariant_of-self-2 c =
    let new =
    ap (λ (x : Name). is_some (place_of c.self.inside.places x)) (sym c.as_slice.ensures)
    ∙ ap is_some (sym c.get.ensures) ∙ sym c.is_some.ensures ∙ c.if-is_some.false in
    rw (c.push_reserved.ensures.items, c.reserve.ensures.items)
    (index_added c.self.inside.places c.insert.new.self c.self.inside.ids.items c.args.name c.self.invariant new
    (λ other. rw (sym c.as_slice-2.ensures, sym c.reserve.ensures.items, sym (c.len.ensures ∙ c.reserve.new.self.ok.0))
    (c.in_ok-insert.ensures.added other)))

pub returns : goal.returns
returns c =
    let new =
    ap (λ (x : Name). is_some (place_of c.self.inside.places x)) (sym c.as_slice.ensures)
    ∙ ap is_some (sym c.get.ensures) ∙ sym c.is_some.ensures ∙ c.if-is_some.false in
    rw (c.push_reserved.ensures.items, c.reserve.ensures.items, sym c.self.view_is)
    (is_added c.self.inside.places c.self.inside.ids.items c.self.inside.nameless c.args.name c.self.invariant new)
