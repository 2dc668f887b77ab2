use Rattle.task_board.proofs.LawLemmas.{run_sound, happens_sound}
use Rattle.task_board.proofs.laws.boards_are_sound.Goals as goal

pub returns-clause-reached : goal.returns-clause-reached
returns-clause-reached c = run_sound

pub returns-clause-kept : goal.returns-clause-kept
returns-clause-kept c = happens_sound
