use Rattle.std.proofs.Common.{◌≡◌, ◌-◌, length}
use Rattle.text_assembler.specs.Reading.{read_some, read_parts}
use Rattle.text_assembler.specs.Inside.Answers.{with_front}
use Rattle.text_assembler.specs.Phrases.{is_close, one_nameless}
use Rattle.text_assembler.proofs.phrases.push_all_nameless.Given as goal

abbrev pub invariant-loop : goal.invariant-loop
invariant-loop l =
    with_front l.out.items (read_some is_close one_nameless (length l.tokens - l.counter) l.rest)
    ≡ with_front l.initial.out.items (read_parts is_close one_nameless l.tokens)
