use Rattle.std.proofs.Common.{◌+◌, drop, take, length, subst, sym, true, false}
use Rattle.request_lines.specs.Inside.Pieces.{TakesPiece}
use Rattle.request_lines.proofs.SplitLemmas.{piece_to_feed, piece_to_end}
use Rattle.request_lines.proofs.line_reader.take_piece.Goals as goal

pub returns-in_ok-add-in-Some : goal.returns-in_ok-add-in-Some
returns-in_ok-add-in-Some c =
    let xs = c.bytes-bytes.result.now in
    let i = c.in-Some.end in
    let taken = piece_to_feed xs i c.in-Some.ensures.0.high c.in-Some.ensures.0.before c.in-Some.ensures.1 in (
      take i xs,
      subst (λ r. TakesPiece true c.args.chunk.now r (take i xs)) (sym c.skip.ensures)
          (subst (λ y. TakesPiece true y (drop (i + 1) y) (take i xs)) c.bytes-bytes.ensures taken),
      c.in_ok-add-in-Some.ensures,
    )

pub returns-in_ok-add-in-None : goal.returns-in_ok-add-in-None
returns-in_ok-add-in-None c =
    let xs = c.bytes-bytes.result.now in
    let taken = piece_to_end xs c.in-None.ensures in (
      xs,
      subst (λ r. TakesPiece false c.args.chunk.now r xs) (sym c.skip-in-None.ensures)
          (subst (λ y. TakesPiece false y (drop (length xs) y) xs) c.bytes-bytes.ensures taken),
      c.in_ok-add-in-None.ensures,
    )
