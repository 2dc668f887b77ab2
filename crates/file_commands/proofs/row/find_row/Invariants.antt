use Rattle.std.proofs.Common.{◌≡◌, drop}
use Rattle.file_commands.specs.Inside.Chosen.{is_row_name}
use Rattle.file_commands.proofs.row.find_row.Given as goal

-- no row so far has the name
abbrev pub invariant-loop-row : goal.invariant-loop-row
invariant-loop-row l = is_row_name (drop l.row-index l.rows) l.name ≡ is_row_name l.rows l.name
