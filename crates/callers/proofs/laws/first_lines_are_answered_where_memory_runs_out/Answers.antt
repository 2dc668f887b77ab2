use Rattle.callers.proofs.LawLemmas.{all_or_but_one}
use Rattle.callers.proofs.laws.first_lines_are_answered_where_memory_runs_out.Goals as goal

pub returns-clause-lines : goal.returns-clause-lines
returns-clause-lines c was now input before after left d = d.read

pub returns-clause-texts : goal.returns-clause-texts
returns-clause-texts c was now input before after left d =
    all_or_but_one before after d.texts d.written.0 d.written.1 d.written.2
