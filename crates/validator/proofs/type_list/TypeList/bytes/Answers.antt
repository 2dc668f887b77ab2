use Rattle.std.proofs.Common.{◌≡◌, ◌%◌, ◌/◌, Some, ℕ, List, take, drop, refl, sym, subst}
use Rattle.std.specs.Prelude.{slice_get}
use Rattle.std.proofs.lemmas.Option.{slice_get_read}
use Rattle.validator.specs.Inside.Packed.{IsRow}
use Rattle.validator.proofs.PackedLemmas.{row_between}
use Rattle.validator.proofs.type_list.TypeList.bytes.Goals as goal

pub returns-clause-row : goal.returns-clause-row
returns-clause-row c =
    let at = c.args.at in
    let row = c.index-self-at.result in
    let there : slice_get c.self.inside.rows.now (at % 8) ≡ Some row =
    slice_get_read c.self.inside.rows.now _ (at % 8) row refl c.if-self-at.false c.index-self-at.is in
    let part = λ (r : List ℕ). take c.args.count (drop (at / 8) r) in
    subst (λ (bytes : List ℕ). IsRow bytes (drop at c.args.self.now)) (sym c.part.ensures)
    (subst (λ (r : List ℕ). IsRow (part r) (drop at c.args.self.now)) c.index-self-at.is
    (subst (λ ts. IsRow (part row) (drop at ts)) c.self.view_is
    (row_between c.self.inside.rows.now row at c.args.count c.self.inside.types.now c.self.invariant there)))
