use Rattle.std.proofs.Common.{◌≡◌, ◌≤◌, take}
use Rattle.std.specs.Prelude.{vec_capacity, All}
use Rattle.step_machine.specs.MachineView.{state_of}
use Rattle.step_machine.specs.Shown.{shown}
use Rattle.debugger.specs.Inside.KnownPlaces.{IsKnown}
use Rattle.debugger.proofs.frames.inspect.Given as goal

-- those of the frames so far, and what is known of their places
abbrev pub invariant-loop-index : goal.invariant-loop-index
invariant-loop-index l = record {
  room : l.count ≤ vec_capacity l.frames;
  known : All (IsKnown l.machine.module) l.known.items;
  told : l.frames.items ≡ take l.index (shown (state_of l.machine));
}
