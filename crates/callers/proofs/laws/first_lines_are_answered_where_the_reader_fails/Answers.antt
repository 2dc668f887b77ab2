use Rattle.callers.proofs.laws.first_lines_are_answered_where_the_reader_fails.Goals as goal

pub returns-clause-first : goal.returns-clause-first
returns-clause-first c was now input before after left d = (d.read.0, d.written)

pub returns-clause-whole : goal.returns-clause-whole
returns-clause-whole c was now input left before after d = d.read.1
