use Rattle.wasm_binary.proofs.LocalRuns.{locals_runs, only_runs}
use Rattle.wasm_binary.proofs.Minimality.{runs_longest}
use Rattle.wasm_binary.proofs.laws.canonical_runs_are_longest.Goals as goal

pub returns-clause-same : goal.returns-clause-same
returns-clause-same c = locals_runs

pub returns-clause-longest : goal.returns-clause-longest
returns-clause-longest c = runs_longest

pub returns-clause-only : goal.returns-clause-only
returns-clause-only c = only_runs
