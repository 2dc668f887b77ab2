use Rattle.std.proofs.Common.{arith}
use Rattle.request_lines.proofs.LineLemmas.{kept_nothing, takes_found, ends_with_line, end_of, gathers_more}
use Rattle.request_lines.proofs.line_reader.next_line.Goals as goal

pub returns-in-Found-clause-found : goal.returns-in-Found-clause-found
returns-in-Found-clause-found g c e =
    takes_found _ _ _ c.loop.line _ c.loop.invariant.0 _ c.in_ok-read_piece.ensures.bytes c.in-Found.is

pub returns-in-Found-clause-less : goal.returns-in-Found-clause-less
returns-in-Found-clause-less g c = omega (arith, c.in_ok-read_piece.ensures.less, c.loop.invariant.1)

pub returns-in-End-clause-last : goal.returns-in-End-clause-last
returns-in-End-clause-last g c e some =
    ends_with_line _ _ _ c.loop.line _ c.loop.invariant.0 _ c.in_ok-read_piece.ensures.bytes c.in-End.is
    (λ text kept nothing. some (kept_nothing _ text kept nothing))

pub returns-in-End-clause-end : goal.returns-in-End-clause-end
returns-in-End-clause-end g c e =
    end_of _ _ _ c.loop.line _ c.loop.invariant.0 _ c.in_ok-read_piece.ensures.bytes c.in-End.is

pub returns-in-End-clause-less : goal.returns-in-End-clause-less
returns-in-End-clause-less g c = omega (arith, c.in_ok-read_piece.ensures.less, c.loop.invariant.1)

pub loop-preserved : goal.loop-preserved
loop-preserved g c = (
  gathers_more _ _ _ c.loop.line _ c.loop.invariant.0 _ c.in_ok-read_piece.ensures.bytes c.in-More.is,
  omega (arith, c.in_ok-read_piece.ensures.less, c.loop.invariant.1),
)
