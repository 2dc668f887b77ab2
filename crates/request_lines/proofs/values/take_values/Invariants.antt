use Rattle.std.proofs.Common.{drop}
use Rattle.serde_json.specs.View.{members_view}
use Rattle.request_lines.specs.Inside.Values.{Taking}
use Rattle.request_lines.proofs.values.take_values.Given as goal

abbrev pub invariant-loop-key : goal.invariant-loop-key
invariant-loop-key l =
    Taking l.keys (drop l.key-index l.keys) (members_view l.fn.members.entries) (members_view l.left.entries) l.values
