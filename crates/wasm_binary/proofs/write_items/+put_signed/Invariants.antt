use Rattle.wasm_binary.proofs.write_items.+put_signed.Given as goal

abbrev pub decreases-put_signed : goal.decreases-put_signed
decreases-put_signed l = l.more
