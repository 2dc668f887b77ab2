use Rattle.callers.proofs.laws.first_lines_are_answered_where_the_writer_fails.Goals as goal

pub returns : goal.returns
returns c was now input before after left d = (d.written.0, d.read, d.written.1, d.written.2)
