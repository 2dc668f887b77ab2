use Rattle.std.proofs.Common.{◌≡◌, List, Some, subst}
use Rattle.std.specs.Prelude.{slice_get}
use Rattle.debugger.specs.declared.known_places.KnownPlace.{KnownPlace}
use Rattle.debugger.proofs.KnownLemmas.{all_with, there_at}
use Rattle.debugger.proofs.known_places.known_at.Goals as goal

pub returns-in-Some-clause-at : goal.returns-in-Some-clause-at
returns-in-Some-clause-at c =
    let found = c.in-Some.ensures in (
      found.0,
      subst (λ (l : List KnownPlace). slice_get l c.in-Some.index ≡ Some found.0) c.as_slice.ensures.value found.1,
      found.2,
      found.3,
    )

pub returns-clause-all : goal.returns-clause-all
returns-clause-all c =
    all_with c.args.of.now c.args.known.now.items c.add.new.known.items c.in_ok-one.one c.requires.all
    c.in_ok-one.ensures.known.0 c.in_ok-add.ensures.added

pub returns-clause-at : goal.returns-clause-at
returns-clause-at c =
    there_at c.args.known.now.items c.add.new.known.items c.in_ok-one.one c.args.func c.args.place
    c.in_ok-add.field-0 c.in_ok-add.ensures.added c.in_ok-add.ensures.at c.in_ok-one.ensures.known.1
    c.in_ok-one.ensures.known.2
