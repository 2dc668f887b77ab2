use Rattle.crossbeam_queue.specs.Passes.{IsPassOf}
use Rattle.slice_workers.proofs.serving.worker.Given as goal

-- the pass stays one of the queue
abbrev pub invariant-loop : goal.invariant-loop
invariant-loop g l =
    (goal.iterator-loop g).can_next l.iterator' × (goal.iterator-loop g).is_finite l.iterator' × IsPassOf l.queue l.pass
