use Rattle.std.proofs.Common.{◌≡◌, ◌++◌, drop}
use Rattle.file_commands.specs.Inside.Script.{replay_text}
use Rattle.file_commands.proofs.replay.write_answers.Given as goal

abbrev pub invariant-loop-mark : goal.invariant-loop-mark
invariant-loop-mark l = l.out.items ++ replay_text (drop l.mark-index l.marks) l.left ≡ replay_text l.marks l.replies
