use Rattle.std.proofs.Common.{◌≡◌, ◌<◌, Some, length, ◌∙◌, arith}
use Rattle.std.specs.Prelude.{slice_get}
use Rattle.once_cell.specs.Once.{cell_name}
use Rattle.call_journal.proofs.RowLemmas.{names_more, values_more, name_of_read}
use Rattle.call_journal.proofs.cells.Cells.fill.Goals as goal

pub returns-in-Ok-clause-row : goal.returns-in-Ok-clause-row
returns-in-Ok-clause-row c =
    let row = c.self.inside.row.items in
    let lt : c.args.i < length row = omega (arith, c.requires.room, c.self.invariant, c.self.inside.row.ok.0) in
    let at = name_of_read cell_name row c.args.i c.index-cell.result.now lt c.index-cell.ensures in
    let is :
    c.set_as.new.note.cell ≡ cell_name c.index-cell.result.now = c.set_as.ensures.cell ∙ c.note-note.ensures.0 in
    let cell : slice_get c.args.self.now (length c.args.front.now.seen) ≡ Some c.set_as.new.note.cell =
    rw (← c.requires.next, ← c.self.view_is, is) at in
    names_more _ _ _ _ _ c.requires.row cell (c.with.ensures.more c.args.entry.value (c.in-Ok.ensures.value.0))

pub returns-in-Ok-clause-more : goal.returns-in-Ok-clause-more
returns-in-Ok-clause-more c = values_more _ _ _ _ (c.with.ensures.more c.args.entry.value (c.in-Ok.ensures.value.0))
