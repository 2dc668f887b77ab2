use Rattle.std.proofs.Common.{arith}
use Rattle.std.proofs.lemmas.Bool.Decides.{nat_tests}
use Rattle.wasi_calls.specs.NoMemory.{no_memory}
use Rattle.wasi_calls.proofs.TextLemmas.{texts_refused}
use Rattle.wasi_calls.proofs.without_memory.put_texts.Goals as goal

pub returns-then-not-is_at_zero : goal.returns-then-not-is_at_zero
returns-then-not-is_at_zero c out err =
    texts_refused c.args.texts.now c.args.p c.args.q no_memory out err (grind (arith, nat_tests))
