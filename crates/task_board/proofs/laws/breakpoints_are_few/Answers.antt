use Rattle.task_board.proofs.LawLemmas.{run_sound, sound_in}
use Rattle.task_board.proofs.laws.breakpoints_are_few.Goals as goal

pub returns-clause-few : goal.returns-clause-few
returns-clause-few c es rs s run k t there = (sound_in s k t (run_sound es rs s run) there).few_breaks

pub returns-clause-distinct : goal.returns-clause-distinct
returns-clause-distinct c es rs s run k t there = (sound_in s k t (run_sound es rs s run) there).breaks
