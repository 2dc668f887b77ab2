use Rattle.call_journal.proofs.JournalLemmas.{replay_empty, replay_slice, replay_call, may_answer}
use Rattle.call_journal.proofs.laws.replays_go_on.Goals as goal

pub returns-clause-empty : goal.returns-clause-empty
returns-clause-empty c = replay_empty

pub returns-clause-slice : goal.returns-clause-slice
returns-clause-slice c h s e a s' is of_slice step = replay_slice h s s' e a is of_slice step

pub returns-clause-call : goal.returns-clause-call
returns-clause-call c h s seat r a s' is answers = replay_call h s s' seat r a is answers

pub returns-clause-answer : goal.returns-clause-answer
returns-clause-answer c h s seat r a s' is answers = may_answer h s s' seat r a is answers
