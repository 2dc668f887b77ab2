use Rattle.wasm_binary.proofs.numbers.+read_unsigned.Given as goal

abbrev pub decreases-read_unsigned : goal.decreases-read_unsigned
decreases-read_unsigned l = l.bits
