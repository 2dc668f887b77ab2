use Rattle.std.proofs.Common.{refl, ◌∙◌}
use Rattle.oci_config.specs.declared.stream.Stream.TheVariants.{Out, Err}
use Rattle.step_machine.specs.MachineView.{output_of}
use Rattle.file_commands.proofs.StreamLemmas.{none_copied, all_copied, then_grown}
use Rattle.file_commands.proofs.run.run_to_end.Goals as goal

pub loop-machine-init : goal.loop-machine-init
loop-machine-init g c = record {
  same_module = refl;
  same_process = refl;
  out = none_copied (output_of c.args.machine.now Out) (g.O.Write.contents c.args.out.now);
  err = none_copied (output_of c.args.machine.now Err) (g.E.Write.contents c.args.err.now);
}

pub write_new-requires-clause-out : goal.write_new-requires-clause-out
write_new-requires-clause-out g c = c.loop-machine.invariant.out.0

pub write_new-requires-clause-err : goal.write_new-requires-clause-err
write_new-requires-clause-err g c = c.loop-machine.invariant.err.0

pub returns-in_err-write_new-clause-same_module : goal.returns-in_err-write_new-clause-same_module
returns-in_err-write_new-clause-same_module g c = c.loop-machine.invariant.same_module

pub returns-in_err-write_new-clause-same_process : goal.returns-in_err-write_new-clause-same_process
returns-in_err-write_new-clause-same_process g c = c.loop-machine.invariant.same_process

pub returns-in-Some-clause-same_module : goal.returns-in-Some-clause-same_module
returns-in-Some-clause-same_module g c = c.loop-machine.invariant.same_module

pub returns-in-Some-clause-same_process : goal.returns-in-Some-clause-same_process
returns-in-Some-clause-same_process g c = c.loop-machine.invariant.same_process

pub returns-in-Some-clause-out : goal.returns-in-Some-clause-out
returns-in-Some-clause-out g c =
    let known = g.O.Write.contents in
    all_copied (output_of c.loop-machine.machine Out) c.loop-machine.written.out
    (known c.args.out.now) (known c.loop-machine.out) (known c.write_new.new.out)
    c.loop-machine.invariant.out c.in_ok-write_new.ensures.out

pub returns-in-Some-clause-err : goal.returns-in-Some-clause-err
returns-in-Some-clause-err g c =
    let known = g.E.Write.contents in
    all_copied (output_of c.loop-machine.machine Err) c.loop-machine.written.err
    (known c.args.err.now) (known c.loop-machine.err) (known c.write_new.new.err)
    c.loop-machine.invariant.err c.in_ok-write_new.ensures.err

pub loop-machine-smaller : goal.loop-machine-smaller
loop-machine-smaller g c = c.run_slice.ensures.fewer

pub loop-machine-preserved : goal.loop-machine-preserved
loop-machine-preserved g c =
    let v = c.loop-machine.machine in
    let w = c.run_slice.new.machine in
    let out = g.O.Write.contents in
    let err = g.E.Write.contents in
    let before = c.loop-machine.invariant in
    let news = c.in_ok-write_new.ensures in
    record {
      same_module = c.run_slice.ensures.same_module ∙ before.same_module;
      same_process = c.run_slice.ensures.same_process ∙ before.same_process;
      out =
          then_grown (output_of v Out) (output_of w Out) c.write_new.new.written.out
          (out c.args.out.now) (out c.write_new.new.out)
          (all_copied (output_of v Out) c.loop-machine.written.out
          (out c.args.out.now) (out c.loop-machine.out) (out c.write_new.new.out) before.out news.out)
          news.all_out (c.run_slice.ensures.grown Out);
      err =
          then_grown (output_of v Err) (output_of w Err) c.write_new.new.written.err
          (err c.args.err.now) (err c.write_new.new.err)
          (all_copied (output_of v Err) c.loop-machine.written.err
          (err c.args.err.now) (err c.loop-machine.err) (err c.write_new.new.err) before.err news.err)
          news.all_err (c.run_slice.ensures.grown Err);
    }
