use Rattle.std.proofs.Common.{◌≡◌, map, fold, length}
use Rattle.clap.specs.Simple.{app_of, with_subcommand}
use Rattle.file_commands.specs.Inside.Chosen.{row_shape}
use Rattle.file_commands.proofs.row.with_rows.Given as goal

-- the commands so far, and those of the rows left
abbrev pub invariant-loop-row : goal.invariant-loop-row
invariant-loop-row l =
    fold with_subcommand (app_of l.program) (map row_shape l.left)
    ≡ fold with_subcommand (app_of l.fn.program) (map row_shape l.fn.rows)

abbrev pub decreases-loop-row : goal.decreases-loop-row
decreases-loop-row l = length l.left
