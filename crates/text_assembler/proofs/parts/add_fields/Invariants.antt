use Rattle.std.proofs.Common.{◌≡◌, ◌-◌}
use Rattle.text_assembler.specs.Inside.Parts.{parts_of}
use Rattle.text_assembler.specs.Modules.{read_fields}
use Rattle.text_assembler.proofs.parts.add_fields.Given as goal

abbrev pub invariant-loop : goal.invariant-loop
invariant-loop l =
    read_fields l.nesting l.scopes (l.most - l.counter) (parts_of l.parts) l.rest
    ≡ read_fields l.nesting l.scopes l.most (parts_of l.initial.parts) l.tokens
