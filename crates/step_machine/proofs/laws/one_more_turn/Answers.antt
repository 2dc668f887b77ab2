use Rattle.std.proofs.Common.{◌≡◌, ◌+◌, suc, arith}
use Rattle.step_machine.proofs.TurnLemmas.{from-more}
use Rattle.step_machine.proofs.laws.one_more_turn.Goals as goal

pub returns : goal.returns
returns c p k n d =
    let e : k + n + 1 ≡ suc (k + n) = omega arith in
    rw e (from-more p k n d)
