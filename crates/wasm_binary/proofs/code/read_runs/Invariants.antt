use Rattle.std.proofs.Common.{◌≡◌, ◌-◌, ◌≤◌, true}
use Rattle.wasm_ast.specs.Limits.{max_locals}
use Rattle.wasm_binary.specs.Inside.Reading.{read_runs}
use Rattle.wasm_binary.proofs.ItemLoop.{with_front}
use Rattle.wasm_binary.proofs.code.read_runs.Given as goal

abbrev pub invariant-loop : goal.invariant-loop
invariant-loop l = record {
  few : l.before ≤ max_locals;
  same :
      with_front l.items.items (read_runs true l.before (l.count - l.counter) l.rest)
      ≡ read_runs true l.fn.params l.count l.bytes;
}
