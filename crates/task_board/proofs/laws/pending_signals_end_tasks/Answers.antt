use Rattle.task_board.proofs.LifecycleLemmas.{own_end_stops, signal_stops}
use Rattle.task_board.proofs.laws.pending_signals_end_tasks.Goals as goal

pub returns-clause-own : goal.returns-clause-own
returns-clause-own c t t' e back = own_end_stops t t' back e

pub returns-clause-signal : goal.returns-clause-signal
returns-clause-signal c t t' signal back = signal_stops t t' back signal
