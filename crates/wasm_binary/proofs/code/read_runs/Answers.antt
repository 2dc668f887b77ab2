use Rattle.std.proofs.Common.{true, arith}
use Rattle.std.proofs.lemmas.Result.{err_from_is_err_and}
use Rattle.wasm_binary.specs.Inside.Reading.{read_runs}
use Rattle.wasm_binary.proofs.ReadLoops.{run_goes_on, run_count_fails, run_over, run_type_fails, runs_done}
use Rattle.wasm_binary.proofs.code.read_runs.Goals as goal

pub returns-in_err-n : goal.returns-in_err-n
returns-in_err-n c =
    let p = err_from_is_err_and c.from_residual.result c.from_residual.ensures.1 in
    rw (p.1, p.2)
    (run_count_fails c.in_err-n.field-0.0 c.loop.items.items c.loop.before c.args.count c.loop.counter
    c.loop.rest.now (read_runs true c.args.params c.args.count c.args.bytes.now) c.loop-test.true
    c.in_err-n.ensures.value c.loop.invariant.same)

pub returns-then-n-before : goal.returns-then-n-before
returns-then-n-before c =
    run_over c.loop.items.items c.loop.before c.args.count c.loop.counter c.loop.rest.now c.in_ok-n.n
    c.in_ok-n.from_type.now (read_runs true c.args.params c.args.count c.args.bytes.now) c.loop-test.true
    c.in_ok-n.ensures.value (omega arith) c.loop.invariant.same

pub returns-in_err-t : goal.returns-in_err-t
returns-in_err-t c =
    let p = err_from_is_err_and c.from_residual-in_err-t.result c.from_residual-in_err-t.ensures.1 in
    rw (p.1, p.2)
    (run_type_fails c.in_err-t.field-0.0 c.loop.items.items c.loop.before c.args.count c.loop.counter
    c.loop.rest.now c.in_ok-n.n c.in_ok-n.from_type.now
    (read_runs true c.args.params c.args.count c.args.bytes.now) c.loop-test.true c.in_ok-n.ensures.value
    (omega arith) c.in_err-t.ensures c.loop.invariant.same)

pub loop-preserved : goal.loop-preserved
loop-preserved c = record {
  few = omega arith;
  same =
      rw c.in_ok-push_run.ensures
      (run_goes_on c.loop.items.items c.loop.before c.args.count c.loop.counter c.loop.rest.now c.in_ok-n.n
      c.in_ok-n.from_type.now c.in_ok-t.t c.in_ok-t.next.now
      (read_runs true c.args.params c.args.count c.args.bytes.now) c.loop-test.true c.in_ok-n.ensures.value
      (omega arith) c.in_ok-t.ensures c.loop.invariant.same);
}

pub returns : goal.returns
returns c =
    runs_done c.loop.items.items c.loop.before c.args.count c.loop.counter c.loop.rest.now
    (read_runs true c.args.params c.args.count c.args.bytes.now) c.loop-test.false c.loop.invariant.same
