use Rattle.std.proofs.Common.{◌<◌, ◌^◌, arith}
use Rattle.wasm_binary.proofs.Powers.{fits, within}
use Rattle.wasm_binary.proofs.numbers.+read_signed.Goals as goal

pub overflow_mul-result : goal.overflow_mul-result
overflow_mul-result t c =
    let h =
    within c.args.bits _ c.requires.1
    (fits c.args.bits c.in_ok-high.high 128 (omega arith) c.in_ok-high.ensures.small (omega arith)) in omega arith

pub overflow_add-result : goal.overflow_add-result
overflow_add-result t c =
    let b : c.in_ok-first.first < 2 ^ 8 = c.in_ok-first.ensures.small in
    let h =
    within c.args.bits _ c.requires.1
    (fits c.args.bits c.in_ok-high.high c.from.result (omega arith) c.in_ok-high.ensures.small (omega arith))
    in omega (arith, h)

pub returns-clause-small : goal.returns-clause-small
returns-clause-small t c =
    let b : c.in_ok-first.first < 2 ^ 8 = c.in_ok-first.ensures.small in
    fits c.args.bits c.in_ok-high.high c.from.result (omega arith) c.in_ok-high.ensures.small (omega arith)
