use Rattle.std.proofs.Common.{◌/◌, ◌-◌, ◌%◌, ◌+◌, arith}
use Rattle.std.proofs.lemmas.Result.{IfOk-equal}
use Rattle.wasm_binary.specs.Canonical.{canon_unsigned}
use Rattle.wasm_binary.proofs.WriteNumbers.{unsigned_more, pushed}
use Rattle.wasm_binary.proofs.write_items.+put_unsigned.Goals as goal

pub returns : goal.returns
returns t c =
    IfOk-equal c.put_unsigned.result _ _ _ c.put_unsigned.ensures
    (pushed c.args.out.now.items c.push-2.new.self.items (128 + c.args.n % 128)
    (canon_unsigned (c.args.more - 1) (c.args.n / 128)) _ c.in_ok-push-2.ensures.items
    (unsigned_more c.args.more c.args.n (omega arith) c.if-n-lt128.false))
