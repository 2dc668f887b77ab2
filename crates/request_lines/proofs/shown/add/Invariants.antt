use Rattle.std.proofs.Common.{◌≡◌, drop}
use Rattle.serde_json.specs.View.{members_view}
use Rattle.request_lines.specs.Inside.Rows.{with_rows}
use Rattle.request_lines.proofs.shown.add.Given as goal

-- those before are put
abbrev pub invariant-loop-row : goal.invariant-loop-row
invariant-loop-row l =
    with_rows l.rows (members_view l.fn.members.entries)
    ≡ with_rows (drop l.row-index l.rows) (members_view l.members.entries)
