use Rattle.call_journal.specs.Desks.{spot_names}
use Rattle.serve_command.proofs.command.serve.Given as goal

abbrev pub ghosts-serve_over-J-Row : goal.ghosts-serve_over-J-Row
ghosts-serve_over-J-Row g a = record { cells = a.cells; slots = spot_names a.desk }

abbrev pub ghosts-serve_over-J-Ledger : goal.ghosts-serve_over-J-Ledger
ghosts-serve_over-J-Ledger g a = record { name = a.blank.name; parts = a.blank.parts }
