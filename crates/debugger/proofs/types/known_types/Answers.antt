use Rattle.std.proofs.Common.{◌+◌, ◌-◌, List, ◌++◌, reverse, ap, sym, ◌∙◌, arith}
use Rattle.wasm_ast.specs.declared.values.ValType.{ValType}
use Rattle.debugger.specs.Inside.Typed.{known_of}
use Rattle.std.proofs.lemmas.List.{reverse-reverse}
use Rattle.debugger.proofs.KnownPoints.{oldest_more}
use Rattle.debugger.proofs.types.known_types.Goals as goal

pub loop-inner-preserved : goal.loop-inner-preserved
loop-inner-preserved c =
    let count = c.open_blocks-count.result in
    let inner = c.loop-inner.inner in
    let types = c.in-Some.operands.types.now in
    let more =
    oldest_more c.args.types.now.stacks (count - (inner + 1)) (count - 1 - inner) (count - inner)
    (record { unreachable = c.in-Some.operands.unreachable; types = reverse types }) types (omega arith) (omega arith)
    c.in-Some.ensures (reverse-reverse types) in
    c.in_ok-push_known.ensures ∙ ap (λ (ts : List ValType). ts ++ known_of types) c.loop-inner.invariant ∙ sym more
