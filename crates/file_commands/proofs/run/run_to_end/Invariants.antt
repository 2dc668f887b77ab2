use Rattle.std.proofs.Common.{◌≡◌, ◌-◌}
use Rattle.oci_config.specs.declared.stream.Stream.TheVariants.{Out, Err}
use Rattle.step_machine.specs.Limits.{last_turn}
use Rattle.step_machine.specs.MachineView.{output_of}
use Rattle.file_commands.specs.Inside.Written.{IsCopied}
use Rattle.file_commands.proofs.run.run_to_end.Given as goal

abbrev pub invariant-loop-machine : goal.invariant-loop-machine
invariant-loop-machine g l = record {
  same_module : l.machine.module ≡ l.fn.machine.module;
  same_process : l.machine.process ≡ l.fn.machine.process;
  out : IsCopied (output_of l.machine Out) l.written.out (g.O.Write.contents l.fn.out) (g.O.Write.contents l.out);
  err : IsCopied (output_of l.machine Err) l.written.err (g.E.Write.contents l.fn.err) (g.E.Write.contents l.err);
}

-- the turns that are left
abbrev pub decreases-loop-machine : goal.decreases-loop-machine
decreases-loop-machine g l = last_turn - l.machine.turns
