use Rattle.wasi_calls.proofs.TextLemmas.{ended}
use Rattle.std.proofs.Common.{◌∙◌}
use Rattle.wasi_calls.proofs.texts.put_text.Goals as goal

pub returns : goal.returns
returns c =
    ended c.args.memory.now c.write_range.new.self c.store.new.self c.args.address c.args.text.now
    c.as_bytes-bytes.result.now
    c.requires.inside (c.as_bytes-bytes.ensures.value
    ∙ c.as_str.ensures) c.write_range.ensures.written c.store.ensures.written
