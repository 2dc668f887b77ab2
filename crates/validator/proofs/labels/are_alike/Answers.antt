use Rattle.std.proofs.Common.{sym, ap, ◌∙◌}
use Rattle.std.specs.Prelude.{slice_get}
use Rattle.validator.proofs.LabelLemmas.{roots, rooted, told_same}
use Rattle.validator.proofs.labels.are_alike.Goals as goal

pub set_alike-requires-then-first-second-clause-same : goal.set_alike-requires-then-first-second-clause-same
set_alike-requires-then-first-second-clause-same c =
    let items = c.args.labels.now.items in
    let first = c.outermost-first.result in
    let second = c.outermost-second.result in
    let same =
    roots c.as_slice-3.result.now items first c.args.index second c.args.other c.have_same_types.result
    c.as_slice-3.ensures.value c.outermost-first.ensures.within c.outermost-second.ensures.within c.requires.index
    c.requires.other c.have_same_types.ensures c.if-not-have_same_types.false in
    let types = c.set_alike-2.ensures.types ∙ c.set_alike.ensures.types in
    ap (λ ts. slice_get ts first) types ∙ (same ∙ sym (ap (λ ts. slice_get ts second) types))

pub set_alike-requires-else-first-second-clause-same : goal.set_alike-requires-else-first-second-clause-same
set_alike-requires-else-first-second-clause-same c =
    let items = c.args.labels.now.items in
    let first = c.outermost-first.result in
    let second = c.outermost-second.result in
    let same =
    roots c.as_slice-3.result.now items first c.args.index second c.args.other c.have_same_types.result
    c.as_slice-3.ensures.value c.outermost-first.ensures.within c.outermost-second.ensures.within c.requires.index
    c.requires.other c.have_same_types.ensures c.if-not-have_same_types.false in
    let types = c.set_alike-2.ensures.types ∙ c.set_alike.ensures.types in
    ap (λ ts. slice_get ts second) types ∙ (sym same ∙ sym (ap (λ ts. slice_get ts first) types))

pub returns-then-first-second-clause-same : goal.returns-then-first-second-clause-same
returns-then-first-second-clause-same c =
    let items = c.args.labels.now.items in
    let first = c.outermost-first.result in
    let second = c.outermost-second.result in
    let same =
    roots c.as_slice-3.result.now items first c.args.index second c.args.other c.have_same_types.result
    c.as_slice-3.ensures.value c.outermost-first.ensures.within c.outermost-second.ensures.within c.requires.index
    c.requires.other c.have_same_types.ensures c.if-not-have_same_types.false in
    told_same items c.args.index c.args.other
    (sym (rooted c.as_slice.result.now items first c.args.index c.as_slice.ensures.value c.outermost-first.ensures.same)
    ∙ (same
    ∙ rooted c.as_slice-2.result.now items second c.args.other c.as_slice-2.ensures.value
    c.outermost-second.ensures.same))

pub returns-else-first-second-clause-same : goal.returns-else-first-second-clause-same
returns-else-first-second-clause-same c =
    let items = c.args.labels.now.items in
    let first = c.outermost-first.result in
    let second = c.outermost-second.result in
    let same =
    roots c.as_slice-3.result.now items first c.args.index second c.args.other c.have_same_types.result
    c.as_slice-3.ensures.value c.outermost-first.ensures.within c.outermost-second.ensures.within c.requires.index
    c.requires.other c.have_same_types.ensures c.if-not-have_same_types.false in
    told_same items c.args.index c.args.other
    (sym (rooted c.as_slice.result.now items first c.args.index c.as_slice.ensures.value c.outermost-first.ensures.same)
    ∙ (same
    ∙ rooted c.as_slice-2.result.now items second c.args.other c.as_slice-2.ensures.value
    c.outermost-second.ensures.same))
