use Rattle.std.proofs.Common.{◌≡◌, ◌++◌, map, drop}
use Rattle.request_lines.specs.Reply.{frame_data}
use Rattle.serde_json.specs.View.{view}
use Rattle.request_lines.proofs.frame_value.frames_value.Given as goal

-- those before are in the list
abbrev pub invariant-loop-frame : goal.invariant-loop-frame
invariant-loop-frame l = map frame_data l.frames ≡ map view l.list.items ++ map frame_data (drop l.frame-index l.frames)
