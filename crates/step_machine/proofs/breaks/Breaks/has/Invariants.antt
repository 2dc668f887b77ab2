use Rattle.std.proofs.Common.{◌≡◌, drop}
use Rattle.step_machine.specs.Slices.{is_among}
use Rattle.step_machine.proofs.breaks.Breaks.has.Given as goal

abbrev pub invariant-loop-place : goal.invariant-loop-place
invariant-loop-place l =
    is_among l.place-items l.func l.instr ≡ is_among (drop l.place-index l.place-items) l.func l.instr
