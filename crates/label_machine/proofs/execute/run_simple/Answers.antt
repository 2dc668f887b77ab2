use Rattle.std.proofs.Common.{refl, ap, ◌∙◌}
use Rattle.oci_config.specs.Processes.{config_of}
use Rattle.wasm_ast.specs.Syntax.{simple}
use Rattle.step_machine.specs.Program.{program}
use Rattle.label_machine.specs.declared.run.Run.{Run}
use Rattle.label_machine.specs.Inside.Turns.{Does}
use Rattle.label_machine.proofs.execute.run_simple.Goals as goal

-- src/execute.rt:38:1
pub returns : goal.returns
returns c p place at =
    let x = c.args.run in
    let q = program c.args.of.now p in
    let y : Run = record {
      top = record x.top {
        locals = c.do_simple.new.locals;
        operands = c.do_simple.new.operands;
      };
      callers = x.callers;
      pending = x.pending;
      store = c.do_simple.new.kept;
    } in
    let does : Does q x y place (simple c.args.instr.now) c.in_ok-effect.effect = record {
      counted = at;
      effect = c.in_ok-effect.ensures.effect p;
      kept = c.in_ok-effect.ensures.kept;
      top = refl;
      callers = refl;
      pending = refl;
    } in
    λ within of. c.after_effect.ensures q x place (simple c.args.instr.now) does within
    (record { process = ap config_of c.in_ok-effect.ensures.process ∙ of.process; invoked_later = of.invoked_later })
