use Rattle.crossbeam_queue.specs.Passes.{IsPassOf}
use Rattle.slice_workers.proofs.working.fn.with_workers_of.scope.Given as goal

abbrev pub invariant-loop : goal.invariant-loop
invariant-loop g l = IsPassOf l.queue l.pass
