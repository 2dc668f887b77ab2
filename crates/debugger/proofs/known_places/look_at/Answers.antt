use Rattle.std.proofs.Common.{[], ◌∷◌}
use Rattle.std.proofs.lemmas.List.Elements.{All-nil, All-cons}
use Rattle.validator.specs.PlaceTypes.{IsPlace}
use Rattle.validator.proofs.EachOfModules.{inside_body}
use Rattle.debugger.proofs.KnownLemmas.{types_there}
use Rattle.debugger.proofs.known_places.look_at.Goals as goal

pub open_blocks_at-requires-clause-inside : goal.open_blocks_at-requires-clause-inside
open_blocks_at-requires-clause-inside c =
    let P = IsPlace c.args.of.now c.args.func in
    inside_body c.module.result.now c.args.of.now c.args.func c.own_func-own.result.now (c.args.place ∷ [])
    c.module.ensures.value c.own_func-own.ensures (All-cons P c.args.place [] c.requires.place (All-nil P))

pub known_place-requires-clause-types : goal.known_place-requires-clause-types
known_place-requires-clause-types c =
    types_there c.valid.result.now c.args.of.now c.args.func c.args.place c.in_ok-types.types c.valid.ensures
    c.in_ok-types.ensures.exact c.in_ok-types.ensures.some
