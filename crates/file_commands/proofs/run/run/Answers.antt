use Rattle.std.proofs.Common.{map, string_bytes}
use Rattle.file_commands.specs.TaskRun.{given}
use Rattle.file_commands.proofs.StreamLemmas.{run_written, refusal_written}
use Rattle.file_commands.proofs.run.run.Goals as goal

pub returns-in-Ok : goal.returns-in-Ok
returns-in-Ok g c =
    run_written c.args.bytes.now
    (given c.args.name.now (map string_bytes c.args.args.now) c.args.settings.now) c.args.explain c.in-Ok.machine
    c.run_task.result (g.O.Write.contents c.args.out.now) (g.O.Write.contents c.run_task.new.out)
    (g.E.Write.contents c.args.err.now) (g.E.Write.contents c.run_task.new.err)
    c.in-Ok.ensures.ok c.run_task.ensures

pub returns-in-Err : goal.returns-in-Err
returns-in-Err g c =
    refusal_written c.args.bytes.now
    (given c.args.name.now (map string_bytes c.args.args.now) c.args.settings.now) c.in-Err.refusal c.args.explain
    c.refused_run_why-told.result c.write.result
    (g.O.Write.contents c.args.out.now) (g.O.Write.contents c.write.new.out)
    (g.E.Write.contents c.args.err.now) (g.E.Write.contents c.write.new.err)
    c.in-Err.ensures.err c.refused_run_why-told.ensures.ran c.refused_run_why-told.ensures.told c.write.ensures
