use Rattle.call_journal.specs.Desks.{spot_names}
use Rattle.test_lines.proofs.driven.drives_noted.Given as goal

abbrev pub ghosts-driven-J-Row : goal.ghosts-driven-J-Row
ghosts-driven-J-Row g a = record { cells = a.cells; slots = spot_names a.desk }

abbrev pub ghosts-driven-J-Ledger : goal.ghosts-driven-J-Ledger
ghosts-driven-J-Ledger g a = record { name = a.blank.name; parts = a.blank.parts }
