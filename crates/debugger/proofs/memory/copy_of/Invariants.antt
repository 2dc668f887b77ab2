use Rattle.std.proofs.Common.{◌≡◌, ◌++◌, replicate}
use Rattle.debugger.proofs.memory.copy_of.Given as goal

abbrev pub invariant-loop : goal.invariant-loop
invariant-loop l = l.bytes.items ≡ l.range.written.now ++ replicate l.counter 0
