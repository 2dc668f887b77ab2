use Rattle.std.proofs.Common.{Some, sym}
use Rattle.text_assembler.proofs.Spaces.{updated}
use Rattle.text_assembler.proofs.places.Places.insert.Goals as goal

pub returns-clause-added : goal.returns-clause-added
returns-clause-added c =
    rw (sym c.in_ok-name.ensures.items)
    (updated (λ k. k.items) c.args.self.now.map c.insert.new.self c.in_ok-name.name.items (Some c.args.place)
    c.in_ok-insert.ensures.updates)
