use Rattle.call_journal.proofs.LegalLemmas.{replay_runs, legal_runs}
use Rattle.call_journal.proofs.laws.replays_are_runs.Goals as goal

pub returns-clause-replay : goal.returns-clause-replay
returns-clause-replay c = replay_runs c.slices_advance_legally.ensures c.advances_are_slices.ensures.slices

pub returns-clause-legal : goal.returns-clause-legal
returns-clause-legal c h legal =
    let run = legal_runs c.slices_advance_legally.ensures c.advances_are_slices.ensures.slices h legal in
    (run.0, run.1.0, run.1.1, run.1.2)
