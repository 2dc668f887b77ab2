use Rattle.std.proofs.Common.{arith}
use Rattle.std.proofs.lemmas.List.{length-map}
use Rattle.call_journal.specs.Inside.Known.{names_of}
use Rattle.call_journal.proofs.RowLemmas.{fronts_begin}
use Rattle.call_journal.proofs.seen.Seen.meet.Goals as goal

pub agrees-requires : goal.agrees-requires
agrees-requires g c =
    let mine = c.self.inside.front.seen in
    let other = c.other.inside.front.seen in
    fronts_begin (names_of mine) (names_of other) g.R.Row.cells c.self.invariant.1 c.other.invariant.1
    (let a = length-map mine (λ x. x.0) in let b = length-map other (λ x. x.0) in let m = c.self.invariant.0
    in let n = c.other.invariant.0 in omega (arith, a, b, m, n, c.if-self-other.true))

pub agrees-requires-then-other-self : goal.agrees-requires-then-other-self
agrees-requires-then-other-self g c =
    let mine = c.self.inside.front.seen in
    let other = c.other.inside.front.seen in
    fronts_begin (names_of other) (names_of mine) g.R.Row.cells c.other.invariant.1 c.self.invariant.1
    (let a = length-map mine (λ x. x.0) in let b = length-map other (λ x. x.0) in let m = c.self.invariant.0
    in let n = c.other.invariant.0 in omega (arith, a, b, m, n, c.if-other-self.true))
