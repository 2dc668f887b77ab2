use Rattle.std.proofs.Common.{◌≡◌, ◌∙◌, get_or, [], sym}
use Rattle.std.proofs.lemmas.Grind.{get_or_default_zero}
use Rattle.step_machine.specs.Places.{opens_at}
use Rattle.debugger.specs.Inside.Typed.{AreTypesAt}
use Rattle.debugger.proofs.KnownLemmas.{each_at, all_with}
use Rattle.debugger.proofs.known_places.add_each.Goals as goal

pub known_place-requires-clause-types : goal.known_place-requires-clause-types
known_place-requires-clause-types c =
    let places = c.args.places.now in
    let k = c.loop-index.index in
    each_at (AreTypesAt c.args.of.now c.args.func) places c.args.types.now k (get_or places k 0)
    c.index-types-index.result c.requires.types c.loop-index-test.true
    (sym (get_or_default_zero places k (get_or places k 0) c.loop-index-test.true)) c.index-types-index.is

pub known_place-requires-clause-blocks : goal.known_place-requires-clause-blocks
known_place-requires-clause-blocks c =
    let places = c.args.places.now in
    let k = c.loop-index.index in
    c.as_slice.ensures.value
    ∙ each_at (λ place b. b.items ≡ opens_at c.args.own.now.body 0 [] place) places c.args.blocks.now k
    (get_or places k 0) c.index-blocks-index.result c.requires.blocks c.loop-index-test.true
    (sym (get_or_default_zero places k (get_or places k 0) c.loop-index-test.true)) c.index-blocks-index.is

pub loop-index-preserved : goal.loop-index-preserved
loop-index-preserved c =
    all_with c.args.of.now c.loop-index.known.items c.add.new.known.items c.in_ok-one.one c.loop-index.invariant
    c.in_ok-one.ensures.known c.in_ok-_number.ensures.added
