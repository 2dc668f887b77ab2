use Rattle.std.proofs.Common.{◌≡◌, ◌+◌, ◌-◌, suc, arith}
use Rattle.step_machine.proofs.ValueLimit.{fits, traps}
use Rattle.step_machine.proofs.worked.piles_are_limited.Goals as goal

pub returns-clause-fits : goal.returns-clause-fits
returns-clause-fits c p n h = fits p n h

pub returns-clause-beyond : goal.returns-clause-beyond
returns-clause-beyond c p n limit is h =
    let e : n ≡ limit + suc (n - limit - 1) = omega arith in
    traps p n limit (n - limit - 1) is e
