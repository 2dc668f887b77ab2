use Rattle.std.proofs.Common.{◌≡◌, ◌≢◌, ℕ, List, ◌≤◌, Some}
use Rattle.std.specs.Prelude.{slice_get}
use Rattle.task_requests.specs.declared.request.Request.TheVariants as asked
use Rattle.content_leases.specs.Digests.{digest_of}
use Rattle.call_journal.specs.declared.entry.Entry.{Entry}
use Rattle.callers.proofs.contents.find_content.Given as goal

-- no put from here on has bytes with this digest
abbrev pub invariant-loop-left : goal.invariant-loop-left
invariant-loop-left g l =
    (k : ℕ) → (e : Entry) → (bytes : List ℕ) → l.left ≤ k → slice_get l.seat.history k ≡ Some e
    → e.request ≡ asked.Put bytes → digest_of bytes ≢ l.digest

abbrev pub decreases-loop-left : goal.decreases-loop-left
decreases-loop-left g l = l.left
