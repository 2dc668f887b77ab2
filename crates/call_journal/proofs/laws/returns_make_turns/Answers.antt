use Rattle.std.proofs.Common.{◌≡◌, ◌+◌, ap, arith}
use Rattle.task_board.specs.Tasks.{slice_turns}
use Rattle.call_journal.proofs.laws.returns_make_turns.Goals as goal

pub returns : goal.returns
returns c t t' back =
    let more : t'.turns ≡ t.turns + slice_turns t back.budget = ap (λ x. x.turns) back.advances in
    omega (arith, more, back.legal.some)
