use Rattle.call_journal.specs.Desks.{spot_names}
use Rattle.test_lines.proofs.missing.check_missing.Given as goal

abbrev pub ghosts-written_of-J-Row : goal.ghosts-written_of-J-Row
ghosts-written_of-J-Row g a = record { cells = a.cells; slots = spot_names a.desk }

abbrev pub ghosts-written_of-J-Ledger : goal.ghosts-written_of-J-Ledger
ghosts-written_of-J-Ledger g a = record { name = a.blank.name; parts = a.blank.parts }
