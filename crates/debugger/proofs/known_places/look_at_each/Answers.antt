use Rattle.std.proofs.Common.{◌≡◌, ℕ, List, [], length, sym, ap, subst, ◌∙◌}
use Rattle.std.specs.Prelude.{All, ◌↔◌}
use Rattle.std.specs.Global.{Vec}
use Rattle.std.proofs.lemmas.List.Elements.{All-weaker}
use Rattle.std.specs.List.{AllZip}
use Rattle.wasm_ast.specs.declared.module.Module.{Module}
use Rattle.validator.specs.PlaceTypes.{IsOwn, IsPlace, Known, Point, ReachesAt, MatchPoint}
use Rattle.validator.proofs.EachOfModules.{inside_body}
use Rattle.validator.proofs.PlacesOfModules.{own_type}
use Rattle.step_machine.specs.Places.{opens_at}
use Rattle.debugger.specs.Inside.KnownPlaces.{HasFrame}
use Rattle.debugger.specs.Inside.Typed.{AreTypesAt}
use Rattle.debugger.proofs.KnownLemmas.{each_length, types_at_each_there}
use Rattle.debugger.proofs.known_places.look_at_each.Goals as goal

pub types_at_each-requires-clause-places : goal.types_at_each-requires-clause-places
types_at_each-requires-clause-places c =
    let m = c.args.of.now in
    let func = c.args.func in
    subst (λ (x : Module). All (IsPlace x func) c.args.places.now) (sym c.valid.ensures)
    (All-weaker (HasFrame m func) (IsPlace m func) (λ p h. h.is_place) c.args.places.now c.requires.places)

pub open_blocks_at-requires-clause-inside : goal.open_blocks_at-requires-clause-inside
open_blocks_at-requires-clause-inside c =
    let m = c.args.of.now in
    let func = c.args.func in
    inside_body c.module.result.now m func c.own_func-own.result.now c.args.places.now c.module.ensures.value
    c.own_func-own.ensures
    (All-weaker (HasFrame m func) (IsPlace m func) (λ p h. h.is_place) c.args.places.now c.requires.places)

pub add_each-requires-clause-is_type : goal.add_each-requires-clause-is_type
add_each-requires-clause-is_type c =
    let own = c.own_func-own.result.now in
    own_type c.args.of.now c.args.func own c.module.ensures.valid
    (subst (λ (x : Module). IsOwn x c.args.func own) c.module.ensures.value c.own_func-own.ensures)

pub add_each-requires-clause-types_count : goal.add_each-requires-clause-types_count
add_each-requires-clause-types_count c =
    ap (λ (ts : List Known). length ts) c.as_slice.ensures.value
    ∙ each_length (λ place t. (p : Point) → MatchPoint t p ↔ ReachesAt c.valid.result.now c.args.func place p)
    c.args.places.now c.in_ok-types.types.items c.in_ok-types.ensures.exact

pub add_each-requires-clause-blocks_count : goal.add_each-requires-clause-blocks_count
add_each-requires-clause-blocks_count c =
    ap (λ (bs : List (Vec ℕ)). length bs) c.as_slice-2.ensures.value
    ∙ each_length (λ place b. b.items ≡ opens_at c.own_func-own.result.now.body 0 [] place) c.args.places.now
    c.in_ok-blocks.blocks.items c.in_ok-blocks.ensures

pub add_each-requires-clause-types : goal.add_each-requires-clause-types
add_each-requires-clause-types c =
    subst (λ (ts : List Known). AllZip (AreTypesAt c.args.of.now c.args.func) c.args.places.now ts)
    (sym c.as_slice.ensures.value)
    (types_at_each_there c.valid.result.now c.args.of.now c.args.func c.args.places.now c.in_ok-types.types.items
    c.valid.ensures c.in_ok-types.ensures.exact c.in_ok-types.ensures.some)
