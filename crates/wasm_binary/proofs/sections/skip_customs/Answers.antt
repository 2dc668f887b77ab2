use Rattle.std.proofs.Common.{◌≡◌, ◌-◌, length, drop, refl, arith}
use Rattle.std.proofs.lemmas.Result.{err_from_is_err_and}
use Rattle.wasm_binary.specs.Inside.Reading.{skip_customs, Fails, skip_custom}
use Rattle.wasm_binary.proofs.ReadLoops.{custom_goes_on, custom_fails, customs_end, customs_run_out}
use Rattle.wasm_binary.proofs.sections.skip_customs.Goals as goal

pub loop-init : goal.loop-init
unfolding skip_customs
loop-init c = let k : length c.args.bytes.now - 0 ≡ length c.args.bytes.now = omega arith in rw k refl

pub returns-in_default : goal.returns-in_default
returns-in_default c =
    customs_end (length c.args.bytes.now) c.loop.counter c.loop.rest.now (skip_customs c.args.bytes.now)
    c.loop-test.true c.in_default.ensures c.loop.invariant

pub returns-in_err-rest : goal.returns-in_err-rest
returns-in_err-rest c =
    let p = err_from_is_err_and c.from_residual.result c.from_residual.ensures.1 in
    let h :
    Fails c.in_err-rest.field-0.0 (skip_custom (drop 1 c.loop.rest.now)) =
    rw (← c.in-Some.ensures.1) c.in_err-rest.ensures in
    rw (p.1, p.2)
    (custom_fails c.in_err-rest.field-0.0 (length c.args.bytes.now) c.loop.counter c.loop.rest.now
    (skip_customs c.args.bytes.now) c.loop-test.true c.in-Some.ensures.0 h c.loop.invariant)

pub loop-preserved : goal.loop-preserved
loop-preserved c =
    custom_goes_on (length c.args.bytes.now) c.loop.counter c.loop.rest.now c.in_ok-rest.rest.now
    (skip_customs c.args.bytes.now) c.loop-test.true c.in-Some.ensures.0
    (rw (← c.in-Some.ensures.1) c.in_ok-rest.ensures) c.loop.invariant

pub returns : goal.returns
returns c =
    customs_run_out (length c.args.bytes.now) c.loop.counter c.loop.rest.now (skip_customs c.args.bytes.now)
    c.loop-test.false c.loop.invariant
