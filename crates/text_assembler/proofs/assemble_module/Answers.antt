use Rattle.text_assembler.proofs.Denoted.{encoded_assembled, encoded_limit, deep_none, bad_none}
use Rattle.text_assembler.proofs.assemble_module.Goals as goal

pub returns-in-Ok-clause-assembled : goal.returns-in-Ok-clause-assembled
returns-in-Ok-clause-assembled c =
    encoded_assembled c.encoded.result c.as_bytes.result.now c.args.text.now c.in-Ok.found c.as_bytes.ensures.value
    c.in-Ok.ensures c.encoded.ensures.causes c.encoded.ensures.limit

pub returns-in-Ok-clause-limit : goal.returns-in-Ok-clause-limit
returns-in-Ok-clause-limit c =
    encoded_limit c.encoded.result c.as_bytes.result.now c.args.text.now c.in-Ok.found c.as_bytes.ensures.value
    c.in-Ok.ensures c.encoded.ensures.limit

pub returns-in-Err-TooDeep-clause-assembled : goal.returns-in-Err-TooDeep-clause-assembled
returns-in-Err-TooDeep-clause-assembled c m d f =
    absurd
    (deep_none c.in-Err-TooDeep.field-0 c.as_bytes.result.now c.args.text.now c.in-Err-TooDeep.field-0-is
    c.as_bytes.ensures.value c.in-Err-TooDeep.ensures m d f)

pub returns-in-Err-TooDeep-clause-limit : goal.returns-in-Err-TooDeep-clause-limit
returns-in-Err-TooDeep-clause-limit c e m d f =
    deep_none c.in-Err-TooDeep.field-0 c.as_bytes.result.now c.args.text.now c.in-Err-TooDeep.field-0-is
    c.as_bytes.ensures.value c.in-Err-TooDeep.ensures m d f

pub returns-in-Err-Malformed-clause-assembled : goal.returns-in-Err-Malformed-clause-assembled
returns-in-Err-Malformed-clause-assembled c m d f =
    absurd
    (bad_none c.in-Err-Malformed.field-0 c.in-Err-Malformed.left c.as_bytes.result.now c.args.text.now
    c.in-Err-Malformed.field-0-is c.as_bytes.ensures.value c.in-Err-Malformed.ensures m d)

pub returns-in-Err-Malformed-clause-bad : goal.returns-in-Err-Malformed-clause-bad
returns-in-Err-Malformed-clause-bad c u m d =
    bad_none c.in-Err-Malformed.field-0 c.in-Err-Malformed.left c.as_bytes.result.now c.args.text.now
    c.in-Err-Malformed.field-0-is c.as_bytes.ensures.value c.in-Err-Malformed.ensures m d
