use Rattle.std.proofs.Common.{arith}
use Rattle.wasm_binary.proofs.LocalRuns.{few_before}
use Rattle.wasm_binary.proofs.write_code.runs_of.Goals as goal

pub add_local-requires : goal.add_local-requires
add_local-requires c =
    few_before c.args.locals.now c.loop-t.runs.items c.loop-t.t-index c.loop-t.invariant
    c.loop-t-test.true (omega arith)
