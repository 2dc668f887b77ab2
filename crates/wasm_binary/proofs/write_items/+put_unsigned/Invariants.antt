use Rattle.wasm_binary.proofs.write_items.+put_unsigned.Given as goal

abbrev pub decreases-put_unsigned : goal.decreases-put_unsigned
decreases-put_unsigned l = l.more
