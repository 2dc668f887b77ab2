use Rattle.std.proofs.Common.{◌≡◌, true, false, ◌||◌, drop, slice_index_or, ℕ, length}
use Rattle.step_machine.specs.Slices.{is_among}
use Rattle.step_machine.specs.Inside.Marks.{function_mark_of}
use Rattle.step_machine.proofs.breaks.functions_of.Given as goal

-- the mark of each place's function is set, or is still to come
abbrev pub invariant-loop-place : goal.invariant-loop-place
invariant-loop-place l = record {
  all : length l.marks ≡ 2048;
  marked :
      (func place : ℕ) → is_among l.places func place ≡ true
      → (is_among (drop l.place-index l.places) func place || slice_index_or l.marks (function_mark_of func) false)
      ≡ true;
}
