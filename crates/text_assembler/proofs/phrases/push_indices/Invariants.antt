use Rattle.std.proofs.Common.{◌≡◌, ◌-◌, length}
use Rattle.text_assembler.specs.Reading.{read_some, read_parts}
use Rattle.text_assembler.specs.Inside.Answers.{with_front}
use Rattle.text_assembler.specs.Phrases.{is_past_indices, one_index}
use Rattle.text_assembler.proofs.phrases.push_indices.Given as goal

abbrev pub invariant-loop : goal.invariant-loop
invariant-loop g l =
    with_front l.out.items
    (read_some is_past_indices (one_index (g.S.Space.entries l.space)) (length l.tokens - l.counter) l.rest)
    ≡ with_front l.initial.out.items (read_parts is_past_indices (one_index (g.S.Space.entries l.space)) l.tokens)
