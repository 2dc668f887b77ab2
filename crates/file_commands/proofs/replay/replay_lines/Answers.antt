use Rattle.std.proofs.Common.{◌∙◌, ap₂}
use Rattle.task_board.specs.BoardState.{empty}
use Rattle.file_commands.specs.Inside.Script.{replay_text}
use Rattle.request_lines.specs.Lines.{lines_of}
use Rattle.file_commands.proofs.ReplayLemmas.{replay_session}
use Rattle.file_commands.proofs.replay.replay_lines.Goals as goal

pub returns-clause-ok : goal.returns-clause-ok
returns-clause-ok c =
    let run = c.in_ok-replies.ensures.run in
    let played =
    replay_session (lines_of c.args.bytes.now) c.in_ok-marks.field-0.marks.items c.in_ok-marks.field-0.events.items
    c.in_ok-replies.replies.items empty run.0 c.in_ok-marks.ensures run.1 in
    record {
      texts = played.0;
      last = run.0;
      session = played.1;
      written =
          c.in_ok-write_answers.ensures
          ∙ (ap₂ replay_text c.as_slice.ensures.value c.as_slice-2.ensures.value ∙ played.2);
    }
