use Rattle.call_journal.specs.Desks.{spot_names}
use Rattle.test_callers.proofs.stories.tell.Given as goal

abbrev pub ghosts-told_of-R-Row : goal.ghosts-told_of-R-Row
ghosts-told_of-R-Row g a = record { cells = a.cells; slots = spot_names a.desk }

abbrev pub ghosts-told_of-R-Ledger : goal.ghosts-told_of-R-Ledger
ghosts-told_of-R-Ledger g a = record { name = a.blank.name; parts = a.blank.parts }
