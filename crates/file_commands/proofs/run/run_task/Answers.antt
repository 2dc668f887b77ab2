use Rattle.file_commands.proofs.StreamLemmas.{end_written}
use Rattle.file_commands.proofs.run.run_task.Goals as goal

pub returns : goal.returns
returns g c =
    end_written c.args.machine.now c.run_to_end.new.machine c.in_ok-end.end
    (g.O.Write.contents c.args.out.now) (g.O.Write.contents c.run_to_end.new.out)
    (g.E.Write.contents c.args.err.now) (g.E.Write.contents c.run_to_end.new.err)
    (g.E.Write.contents c.write_end.new.err)
    c.status_of.result
    c.in_ok-end.ensures.same_module c.in_ok-end.ensures.same_process c.in_ok-end.ensures.end
    c.in_ok-end.ensures.out c.in_ok-end.ensures.err c.in_ok-write_end.ensures c.status_of.ensures
