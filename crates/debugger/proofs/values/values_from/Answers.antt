use Rattle.std.proofs.Common.{◌+◌, List, [], ◌∷◌, ◌++◌, take, drop, get_or, arith, ap, sym, ◌∙◌, length-drop}
use Rattle.std.proofs.lemmas.List.{take_all}
use Rattle.wasm_ast.specs.declared.values.Value.{Value}
use Rattle.std.proofs.lemmas.Option.{slice_get-get_or}
use Rattle.wasm_ast.specs.declared.values.ValType.TheVariants as type
use Rattle.debugger.specs.Inside.Typed.{values_of}
use Rattle.debugger.proofs.TypedLemmas.{take_value, ranged_at, get_drop, length_values}
use Rattle.debugger.proofs.values.values_from.Goals as goal

pub value_of-requires : goal.value_of-requires
value_of-requires c =
    let types = c.args.types.now in
    let words = c.args.frame.now.words in
    let k = c.loop-index.index in
    ranged_at types (drop c.args.from words) k (get_or types k type.I32) c.word.result c.requires.ranged
    (slice_get-get_or types k type.I32 (omega arith))
    (get_drop words c.args.from k (c.args.from + k) c.word.result (omega arith) c.word.ensures)

pub loop-index-preserved : goal.loop-index-preserved
loop-index-preserved c =
    let types = c.args.types.now in
    let words = c.args.frame.now.words in
    let k = c.loop-index.index in
    let values = values_of types (drop c.args.from words) in
    let more =
    take_value types (drop c.args.from words) k (get_or types k type.I32) c.word.result
    (slice_get-get_or types k type.I32 (omega arith))
    (get_drop words c.args.from k (c.args.from + k) c.word.result (omega arith) c.word.ensures) in
    c.in_ok-push.ensures.items ∙ ap (λ (vs : List Value). vs ++ c.value_of.result ∷ []) c.loop-index.invariant
    ∙ ap (λ (v : Value). take k values ++ v ∷ []) c.value_of.ensures ∙ sym more

pub returns : goal.returns
returns c =
    let values = values_of c.args.types.now (drop c.args.from c.args.frame.now.words) in
    c.loop-index.invariant ∙ take_all c.loop-index.index values
    (omega (
      arith,
      length_values c.args.types.now (drop c.args.from c.args.frame.now.words),
      length-drop c.args.from c.args.frame.now.words,
    ))
