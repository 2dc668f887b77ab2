use Rattle.std.proofs.Common.{sym, ◌∙◌}
use Rattle.text_assembler.proofs.Immediates.{found_at, missed_at, shifted}
use Rattle.text_assembler.proofs.plain.exponent.Goals as goal

pub returns-then-number-k : goal.returns-then-number-k
returns-then-number-k c =
    sym c.loop-k.invariant
    ∙ found_at c.args.number c.loop-k.k c.loop-k-test.true (c.if-number-k.true ∙ shifted c.loop-k.k c.loop-k-test.true)

pub loop-k-preserved : goal.loop-k-preserved
loop-k-preserved c =
    sym (missed_at c.args.number c.loop-k.k c.loop-k-test.true
    (λ e. c.if-number-k.false (e ∙ sym (shifted c.loop-k.k c.loop-k-test.true)))) ∙ c.loop-k.invariant
