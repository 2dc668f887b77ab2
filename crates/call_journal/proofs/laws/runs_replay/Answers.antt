use Rattle.task_board.specs.BoardState.{empty}
use Rattle.call_journal.proofs.JournalLemmas.{run_replays, run_of, journal_of}
use Rattle.call_journal.proofs.laws.runs_replay.Goals as goal

pub returns-clause-replay : goal.returns-clause-replay
returns-clause-replay c = run_replays

pub returns-clause-run : goal.returns-clause-run
returns-clause-run c es rs h s journal = run_of empty es rs h s journal

pub returns-clause-journal : goal.returns-clause-journal
returns-clause-journal c es rs s run = journal_of empty es rs s run
