use Rattle.std.proofs.Common.{refl}
use Rattle.std.specs.Fmt.{digits}
use Rattle.serde_json.proofs.OnLiterals.{serde_json_on_literals}
use Rattle.request_lines.proofs.reply_line.no_memory_line.Goals as goal

pub returns : goal.returns
unfolding serde_json_on_literals digits
returns c = refl
