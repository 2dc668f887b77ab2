use Rattle.std.proofs.Common.{rules, refl}
use Rattle.step_machine.proofs.SystemWords.{exit_stays}
use Rattle.step_machine.proofs.do_system.make.Goals as goal

pub returns : goal.returns
returns c = record {
  step = Prim.search rules;
  ended = λ some.
      let e =
      exit_stays c.args.call c.args.args.now c.args.kept.now.memory c.host-end.new.memory.0 c.args.kept.now.process
      c.host-end.new.process c.host-end.result
      c.answer.result c.requires.types c.host-end.ensures.done c.host-end.ensures.config c.answer.ensures.ended some in
      (refl, e.0, refl, e.1);
  calls = Prim.search rules;
}
