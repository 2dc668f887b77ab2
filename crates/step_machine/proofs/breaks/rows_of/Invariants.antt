use Rattle.std.proofs.Common.{◌≡◌, true, false, ◌||◌, drop, slice_index_or, ℕ, length}
use Rattle.step_machine.specs.Slices.{is_among}
use Rattle.step_machine.specs.Inside.Marks.{row_of}
use Rattle.step_machine.proofs.breaks.rows_of.Given as goal

-- the row of each place is set, or is still to come
abbrev pub invariant-loop-place : goal.invariant-loop-place
invariant-loop-place l = record {
  all : length l.rows ≡ 256;
  marked :
      (func place : ℕ) → is_among l.places func place ≡ true
      → (is_among (drop l.place-index l.places) func place || slice_index_or l.rows (row_of func place) false) ≡ true;
}
