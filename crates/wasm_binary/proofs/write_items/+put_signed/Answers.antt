use Rattle.std.proofs.Common.{◌/◌, ◌-◌, ◌%◌, ◌+◌, ◌^◌, ◌<◌, sym, arith}
use Rattle.std.proofs.lemmas.Result.{IfOk-equal}
use Rattle.wasm_binary.specs.Canonical.{canon_signed}
use Rattle.wasm_binary.proofs.WriteNumbers.{signed_more, pushed, not_last, bits_left, high_bits}
use Rattle.wasm_binary.proofs.write_items.+put_signed.Goals as goal

pub put_signed-requires : goal.put_signed-requires
put_signed-requires t c =
    let b :
    7 < c.args.bits =
    bits_left c.args.bits (not_last c.args.bits c.args.n c.requires.3 (sym c.if-is_last_signed.ensures)) in
    let h : c.args.n / 128 < 2 ^ (c.args.bits - 7) = high_bits c.args.bits c.args.n b c.requires.3 in
    (omega arith, (omega arith, omega arith, omega arith, h))

pub returns : goal.returns
returns t c =
    IfOk-equal c.put_signed.result _ _ _ c.put_signed.ensures
    (pushed c.args.out.now.items c.push-2.new.self.items (128 + c.args.n % 128)
    (canon_signed (c.args.more - 1) (c.args.bits - 7) (c.args.n / 128)) _ c.in_ok-push-3.ensures.items
    (signed_more c.args.more c.args.bits c.args.n (omega arith) (sym c.if-is_last_signed.ensures)))
