use Rattle.std.proofs.Common.{◌<◌, ◌^◌, refl}
use Rattle.std.proofs.lemmas.Bool.{lt-ltb}
use Rattle.wasm_binary.proofs.Powers.{small}
use Rattle.wasm_binary.specs.Inside.Reading.{read_last_unsigned}
use Rattle.wasm_binary.proofs.numbers.read_last_unsigned.Goals as goal

pub returns-then-bits-ge7-clause-value : goal.returns-then-bits-ge7-clause-value
unfolding read_last_unsigned
returns-then-bits-ge7-clause-value c =
    let h : c.args.byte < 2 ^ c.args.bits = small c.args.bits c.args.byte c.if-bits-ge7.true c.requires in
    rw (lt-ltb _ _ h, c.from-last.ensures) refl

pub returns-then-bits-ge7-clause-small : goal.returns-then-bits-ge7-clause-small
returns-then-bits-ge7-clause-small c =
    let h : c.args.byte < 2 ^ c.args.bits = small c.args.bits c.args.byte c.if-bits-ge7.true c.requires in
    rw c.from-last.ensures h
