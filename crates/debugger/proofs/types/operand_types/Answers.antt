use Rattle.std.proofs.Common.{refl, ◌∙◌, arith}
use Rattle.debugger.proofs.KnownPoints.{blocks_known, oldest_of_one}
use Rattle.debugger.proofs.types.operand_types.Goals as goal

pub known_types-requires-clause-same : goal.known_types-requires-clause-same
known_types-requires-clause-same c =
    let r = c.requires in
    (blocks_known c.args.of.now c.args.func c.args.place c.args.types.now r.some
    ((r.exact r.some).0 r.matches) r.matches).0

pub known_types-requires-clause-few : goal.known_types-requires-clause-few
known_types-requires-clause-few c =
    let r = c.requires in
    let known =
    blocks_known c.args.of.now c.args.func c.args.place c.args.types.now r.some
    ((r.exact r.some).0 r.matches) r.matches in
    omega (arith, known.1)

pub returns : goal.returns
returns c = λ point one.
    c.in_ok-known.ensures ∙ oldest_of_one c.args.types.now point ((c.requires.exact point).1 ((one point).1 refl))
    (λ q h. (one q).0 ((c.requires.exact q).0 h))
