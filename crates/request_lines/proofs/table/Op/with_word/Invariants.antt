use Rattle.std.proofs.Common.{◌≡◌, drop}
use Rattle.request_lines.specs.Table.{op_with}
use Rattle.request_lines.proofs.table.Op.with_word.Given as goal

abbrev pub invariant-loop-op : goal.invariant-loop-op
invariant-loop-op l = op_with l.word l.ops ≡ op_with l.word (drop l.op-index l.ops)
