use Rattle.std.proofs.Common.{subst}
use Rattle.std.specs.Io.KnownBytes.{prepend_known}
use Rattle.request_lines.specs.Inside.Pieces.{TakesPiece}
use Rattle.request_lines.proofs.LineLemmas.{consumes_to_feed}
use Rattle.request_lines.proofs.line_reader.read_piece.Goals as goal

pub returns-then-branch-clause-bytes : goal.returns-then-branch-clause-bytes
returns-then-branch-clause-bytes g c =
    let taken = c.in_ok-take_piece.ensures in
    let found = subst (λ b. TakesPiece b c.refill.new.self c.take_piece.new.chunk taken.0) c.if-branch.true taken.1 in
    record {
      piece = taken.0;
      plain = found.plain;
      bytes =
          consumes_to_feed (g.R.Source.remaining c.refill.new.reader)
          (prepend_known c.args.chunk.now (g.R.Source.remaining c.args.reader.now)) c.refill.new.self
          c.take_piece.new.chunk taken.0 c.in_ok-refill.ensures.bytes found;
      adds = taken.2;
    }
