use Rattle.std.proofs.Common.{◌≡◌, ◌-◌, length}
use Rattle.text_assembler.specs.Reading.{read_some, read_parts}
use Rattle.text_assembler.specs.Tokens.{is_empty, read_token}
use Rattle.text_assembler.specs.Inside.Answers.{with_front}
use Rattle.text_assembler.proofs.lexer.tokens_of.Given as goal

abbrev pub invariant-loop : goal.invariant-loop
invariant-loop l =
    with_front l.out.items (read_some is_empty read_token (length l.bytes - l.counter) l.rest)
    ≡ read_parts is_empty read_token l.bytes
