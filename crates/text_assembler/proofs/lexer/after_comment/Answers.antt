use Rattle.std.proofs.Common.{◌∷◌, sym, ap, ◌∙◌, arith}
use Rattle.text_assembler.specs.Tokens.{after_comment}
use Rattle.text_assembler.proofs.Comments.{opens, closes, passes}
use Rattle.text_assembler.proofs.lexer.after_comment.Goals as goal

pub loop-first-preserved-then-opens_comment : goal.loop-first-preserved-then-opens_comment
loop-first-preserved-then-opens_comment c =
    let a = c.in-Some.ensures.cases in
    let b = c.in_ok-second.ensures.cases in
    let o =
    opens c.loop-first.depth c.in-Some.first.now c.in_ok-second.second.now c.in_ok-second.next.now
    (sym c.opens_comment.ensures ∙ c.if-opens_comment.true) in (
      omega arith,
      omega (arith, a.1, b.1),
      sym o ∙ sym (ap (after_comment c.loop-first.depth) (a.0 ∙ ap (◌∷◌ c.in-Some.first.now) b.0))
          ∙ c.loop-first.invariant.2,
    )

pub loop-first-preserved-then-closes_comment : goal.loop-first-preserved-then-closes_comment
loop-first-preserved-then-closes_comment c =
    let a = c.in-Some.ensures.cases in
    let b = c.in_ok-second.ensures.cases in
    let o =
    closes c.loop-first.depth c.in-Some.first.now c.in_ok-second.second.now c.in_ok-second.next.now
    (sym c.opens_comment.ensures ∙ c.if-opens_comment.false)
    (sym c.closes_comment.ensures ∙ c.if-closes_comment.true) c.if-depth-eq1.false in (
      omega (arith, c.if-depth-eq1.false),
      omega (arith, a.1, b.1),
      sym o ∙ sym (ap (after_comment c.loop-first.depth) (a.0 ∙ ap (◌∷◌ c.in-Some.first.now) b.0))
          ∙ c.loop-first.invariant.2,
    )

pub loop-first-preserved : goal.loop-first-preserved
loop-first-preserved c =
    let a = c.in-Some.ensures.cases in
    let b = c.in_ok-second.ensures.cases in
    let o =
    passes c.loop-first.depth c.in-Some.first.now c.in_ok-second.second.now c.in_ok-second.next.now
    (sym c.opens_comment.ensures ∙ c.if-opens_comment.false)
    (sym c.closes_comment.ensures ∙ c.if-closes_comment.false) in (
      c.loop-first.invariant.0,
      omega (arith, a.1),
      ap (after_comment c.loop-first.depth) b.0 ∙ sym o
          ∙ sym (ap (after_comment c.loop-first.depth) (a.0 ∙ ap (◌∷◌ c.in-Some.first.now) b.0))
          ∙ c.loop-first.invariant.2,
    )
