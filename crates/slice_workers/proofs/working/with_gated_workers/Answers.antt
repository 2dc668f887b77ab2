use denote.Param.Send.{sendable}
use Rattle.call_journal.proofs.SentShim.{shim_sync}
use Rattle.slice_workers.proofs.working.with_gated_workers.Goals as goal

pub with_workers_of-requires-sync-L : goal.with_workers_of-requires-sync-L
with_workers_of-requires-sync-L g c = search (sendable, shim_sync) depth 20
