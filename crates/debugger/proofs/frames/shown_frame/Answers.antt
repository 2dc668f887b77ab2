use Rattle.std.proofs.Common.{◌≡◌, ap, drop, length, List, ◌∙◌, arith}
use Rattle.wasm_ast.specs.declared.values.Value.{Value}
use Rattle.debugger.specs.Inside.Typed.{values_of}
use Rattle.debugger.proofs.ToldFrames.{locals_there, operands_there, labels_there, room_told, locals_ranged, operands_ranged, same_frame}
use Rattle.debugger.proofs.frames.shown_frame.Goals as goal

pub values_from-requires-clause-ranged : goal.values_from-requires-clause-ranged
values_from-requires-clause-ranged c =
    let m = c.requires.0 in
    let f = c.requires.1 in
    let there = c.requires.2 in
    let k = c.args.known.now in
    let w = c.args.words.now in
    let types = c.as_slice.result.now in
    locals_ranged f.locals f.operands (values_of types w.words)
    (locals_there m k w f types there c.as_slice.ensures.value) there.told.ranged

pub values_from-requires-2-clause-from : goal.values_from-requires-2-clause-from
values_from-requires-2-clause-from c =
    let m = c.requires.0 in
    let f = c.requires.1 in
    let there = c.requires.2 in
    let k = c.args.known.now in
    let w = c.args.words.now in
    let same : length c.in_ok-locals.locals.items ≡ length f.locals =
    ap (λ (vs : List Value). length vs)
    (c.in_ok-locals.ensures ∙ locals_there m k w f c.as_slice.result.now there c.as_slice.ensures.value) in
    let room = room_told m w f there.told in
    omega (arith, same, room, c.len.ensures, c.in_ok-locals.locals.ok.0)

pub values_from-requires-2-clause-ranged : goal.values_from-requires-2-clause-ranged
values_from-requires-2-clause-ranged c =
    let m = c.requires.0 in
    let f = c.requires.1 in
    let there = c.requires.2 in
    let k = c.args.known.now in
    let w = c.args.words.now in
    let same : length c.in_ok-locals.locals.items ≡ length f.locals =
    ap (λ (vs : List Value). length vs)
    (c.in_ok-locals.ensures ∙ locals_there m k w f c.as_slice.result.now there c.as_slice.ensures.value) in
    let count : c.len.result ≡ length f.locals = omega (arith, same, c.len.ensures, c.in_ok-locals.locals.ok.0) in
    let types = c.as_slice-2.result.now in
    operands_ranged f.locals f.operands (values_of types (drop c.len.result w.words))
    (operands_there m k w f types c.len.result there count c.as_slice-2.ensures.value) there.told.ranged

pub returns : goal.returns
returns c = λ m f there.
    let k = c.args.known.now in
    let w = c.args.words.now in
    let locals = c.in_ok-locals.ensures ∙ locals_there m k w f c.as_slice.result.now there c.as_slice.ensures.value in
    let same : length c.in_ok-locals.locals.items ≡ length f.locals = ap (λ (vs : List Value). length vs) locals in
    let count : c.len.result ≡ length f.locals = omega (arith, same, c.len.ensures, c.in_ok-locals.locals.ok.0) in
    let operands =
    c.in_ok-operands.ensures
    ∙ operands_there m k w f c.as_slice-2.result.now c.len.result there count c.as_slice-2.ensures.value in
    let labels =
    labels_there m k w f c.in_ok-labels.labels.items there (c.in_ok-labels.ensures.items ∙ c.as_slice-3.ensures.value)
    in
    same_frame _ f (there.func ∙ there.told.func) (c.next.ensures ∙ there.told.next) (c.new.ensures ∙ labels)
    (c.new-2.ensures ∙ locals) (c.new-3.ensures ∙ operands)
