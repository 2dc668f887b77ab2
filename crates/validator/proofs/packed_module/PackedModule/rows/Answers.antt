use Rattle.std.proofs.Common.{◌<◌, length, get_or, ap, sym, subst, ◌∙◌}
use Rattle.std.specs.Prelude.{slice_get}
use Rattle.wasm_ast.specs.declared.module.Module.{Module}
use Rattle.validator.specs.Inside.Packed.{AreRows}
use Rattle.validator.proofs.PackedLemmas.{rows_there}
use Rattle.validator.proofs.packed_module.PackedModule.rows.Goals as goal

pub returns-then-packed-index : goal.returns-then-packed-index
returns-then-packed-index c = λ t is.
    let items = c.self.inside.packed.items in
    let one = c.packed-item.result in
    let i = c.loop-packed.packed-index in
    let same = c.deref-packed-items.ensures.value in
    let there = ap (λ (m : Module). slice_get m.types c.args.index) c.self.view_is ∙ is in
    subst (λ rows. AreRows rows t.params) (sym c.as_slice.ensures.value)
    (rows_there c.self.inside.module.types items i c.args.index one t c.self.invariant
    (subst (λ xs. i < length xs) same c.loop-packed-test.true) (c.packed-item.is ∙ ap (λ xs. get_or xs i one) same)
    c.if-packed-index.true there)
