use Rattle.std.proofs.Common.{refl}
use Rattle.task_board.specs.BoardState.{empty}
use Rattle.call_journal.proofs.HistoryLemmas.{legal_front}
use Rattle.call_journal.proofs.laws.histories_have_legal_beginnings.Goals as goal

pub returns-clause-empty : goal.returns-clause-empty
returns-clause-empty c = (empty, refl)

pub returns-clause-front : goal.returns-clause-front
returns-clause-front c = legal_front
