use Rattle.std.proofs.Common.{◌≡◌, ◌-◌, length}
use Rattle.text_assembler.specs.Characters.{quote}
use Rattle.text_assembler.specs.Reading.{read_some, read_parts}
use Rattle.text_assembler.specs.Tokens.{begins_with, read_element}
use Rattle.text_assembler.specs.Inside.Answers.{with_front}
use Rattle.text_assembler.proofs.strings.read_bytes.Given as goal

abbrev pub invariant-loop : goal.invariant-loop
invariant-loop l =
    with_front l.out.items (read_some (begins_with quote) read_element (length l.bytes - l.counter) l.rest)
    ≡ read_parts (begins_with quote) read_element l.bytes
