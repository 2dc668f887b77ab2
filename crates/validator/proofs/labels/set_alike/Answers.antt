use Rattle.std.proofs.Common.{◌≡◌, length, Some, refl}
use Rattle.std.specs.Prelude.{slice_get}
use Rattle.std.proofs.lemmas.Option.{slice_get_read}
use Rattle.validator.proofs.LabelLemmas.{alike_set, types_stay}
use Rattle.validator.proofs.labels.set_alike.Goals as goal

pub returns-clause-alike : goal.returns-clause-alike
returns-clause-alike c =
    let items = c.args.labels.now.items in
    let label = c.index_mut.result.now in
    let there : slice_get items c.args.index ≡ Some label =
    slice_get_read items (length items) c.args.index label refl c.requires.index c.index_mut.ensures.value in
    alike_set items c.args.index c.args.alike label there c.requires.alike c.requires.within c.requires.same

pub returns-clause-types : goal.returns-clause-types
returns-clause-types c =
    let items = c.args.labels.now.items in
    let label = c.index_mut.result.now in
    let there : slice_get items c.args.index ≡ Some label =
    slice_get_read items (length items) c.args.index label refl c.requires.index c.index_mut.ensures.value in
    types_stay items c.args.index c.args.alike label there
