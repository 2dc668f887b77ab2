use Rattle.debugger.proofs.KnownLemmas.{frames_with}
use Rattle.debugger.proofs.known_places.add_place.Goals as goal

pub returns-clause-places : goal.returns-clause-places
returns-clause-places c =
    frames_with c.args.of.now c.args.at.func c.args.at.place c.begin_function.new.rising.items
    c.add_later.new.places.items c.in_ok-begin_function.ensures.places c.requires.frame c.in_ok-add_later.ensures.added
