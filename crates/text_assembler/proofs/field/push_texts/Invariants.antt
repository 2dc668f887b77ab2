use Rattle.std.proofs.Common.{◌≡◌, ◌-◌, length}
use Rattle.text_assembler.specs.Reading.{read_some, read_parts}
use Rattle.text_assembler.specs.Inside.Answers.{with_front}
use Rattle.text_assembler.specs.Phrases.{is_close, take_text}
use Rattle.text_assembler.proofs.field.push_texts.Given as goal

abbrev pub invariant-loop : goal.invariant-loop
invariant-loop l =
    with_front l.out.items (read_some is_close take_text (length l.tokens - l.counter) l.rest)
    ≡ with_front l.initial.out.items (read_parts is_close take_text l.tokens)
