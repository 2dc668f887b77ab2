use Rattle.std.proofs.Common.{◌<◌, length, map, arith}
use Rattle.call_journal.specs.Fronts.{Begins}
use Rattle.call_journal.specs.Inside.Known.{names_of}
use Rattle.once_cell.specs.Once.{cell_name}
use Rattle.call_journal.proofs.RowLemmas.{name_at, has_value, value_read, name_of_read, front_fits}
use Rattle.call_journal.proofs.cells.Cells.value.Goals as goal

pub tell-requires : goal.tell-requires
tell-requires c =
    let row = c.self.inside.row.items in
    let cs = c.args.front.now.seen in
    let h : Begins (names_of cs) (map cell_name row) = rw c.self.view_is c.requires.row in
    let lt : c.args.i < length row = omega (arith, c.requires.known, front_fits cell_name cs row h) in
    rw c.note-note.ensures.0
    (name_at cs (map cell_name row) c.args.i (cell_name c.index-cell.result.now) h c.requires.known
    (name_of_read cell_name row c.args.i c.index-cell.result.now lt c.index-cell.ensures))

pub unreachable-requires : goal.unreachable-requires
unreachable-requires c =
    has_value c.args.front.now.seen c.args.i _ c.requires.known c.tell.ensures.known c.in-None.ensures.value.0

pub returns : goal.returns
returns c =
    value_read c.args.front.now.seen c.args.i _ c.in-Some.value.now c.requires.known c.tell.ensures.known
    c.in-Some.ensures.value.1
