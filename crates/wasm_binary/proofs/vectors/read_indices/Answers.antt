use Rattle.std.proofs.Common.{Err, ap}
use Rattle.wasm_binary.specs.Inside.Reading.{read_vector}
use Rattle.wasm_binary.proofs.IndexCounts.{too_many, has_count}
use Rattle.wasm_binary.proofs.vectors.read_indices.Goals as goal

pub returns-in_err-count-clause-count : goal.returns-in_err-count-clause-count
returns-in_err-count-clause-count c more =
    absurd (has_count c.in_err-count.field-0.0 c.args.bytes.now more c.in_err-count.ensures.value
    (λ memory. c.in_err-count.ensures.no_memory (ap Err memory)))

pub returns-then-left-count-clause-value : goal.returns-then-left-count-clause-value
unfolding read_vector
returns-then-left-count-clause-value c =
    rw c.in_ok-count.ensures.value (too_many c.in_ok-count.count c.in_ok-count.rest.now (c.if-left-count.true))
