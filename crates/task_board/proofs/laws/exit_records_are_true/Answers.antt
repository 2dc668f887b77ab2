use Rattle.task_board.proofs.LawLemmas.{run_sound, sound_in, signals_end}
use Rattle.task_board.proofs.laws.exit_records_are_true.Goals as goal

pub returns-clause-record : goal.returns-clause-record
returns-clause-record c es rs s run k t there = (sound_in s k t (run_sound es rs s run) there).end

pub returns-clause-signal : goal.returns-clause-signal
returns-clause-signal c es rs s run e r s' h k t there going t' at signal end =
    signals_end s e r s' (run_sound es rs s run) h k t there going t' at signal end
