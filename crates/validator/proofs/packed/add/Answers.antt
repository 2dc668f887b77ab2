use Rattle.std.proofs.Common.{All, sym, subst}
use Rattle.std.proofs.lemmas.List.Elements.{All-push}
use Rattle.validator.specs.Inside.Packed.{AreOfType}
use Rattle.validator.proofs.packed.add.Goals as goal

pub returns : goal.returns
returns c =
    let type = AreOfType c.args.types.now in
    subst (All type) (sym c.in_ok-push.ensures.items)
    (All-push type c.args.packed.now.items c.in_ok-one.one c.requires.others c.in_ok-one.ensures)
