use Rattle.call_journal.specs.Desks.{spot_names}
use Rattle.test_allocations.proofs.journal.ask_shim.Given as goal

abbrev pub ghosts-ask_over-J-Row : goal.ghosts-ask_over-J-Row
ghosts-ask_over-J-Row g a = record { cells = a.cells; slots = spot_names a.desk }

abbrev pub ghosts-ask_over-J-Ledger : goal.ghosts-ask_over-J-Ledger
ghosts-ask_over-J-Ledger g a = record { name = a.blank.name; parts = a.blank.parts }
