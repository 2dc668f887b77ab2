use Rattle.std.proofs.Common.{◌≡◌, ◌-◌, length}
use Rattle.text_assembler.specs.Reading.{read_some, read_parts}
use Rattle.text_assembler.specs.Inside.Answers.{with_front}
use Rattle.text_assembler.specs.Phrases.{is_past_groups, read_group}
use Rattle.text_assembler.proofs.phrases.push_bindings.Given as goal

abbrev pub invariant-loop : goal.invariant-loop
invariant-loop l =
    with_front l.out.items
    (read_some (is_past_groups l.keyword) (read_group l.keyword) (length l.tokens - l.counter) l.rest)
    ≡ with_front l.initial.out.items (read_parts (is_past_groups l.keyword) (read_group l.keyword) l.tokens)
