use Rattle.std.proofs.Common.{◌≡◌, ℕ, ◌<◌, ◌≤◌, ◌==◌, length, Some, false}
use Rattle.std.specs.Prelude.{slice_get}
use Rattle.call_journal.specs.declared.entry.Entry.{Entry}
use Rattle.call_journal.proofs.seat.Seat.may_follow.Given as goal

abbrev pub invariant-loop-i : goal.invariant-loop-i
invariant-loop-i g l =
    (k : ℕ) → (e : Entry) → length l.self.history ≤ k → k < l.i → slice_get l.journal k ≡ Some e
    → (e.seat == l.self.number) ≡ false
