use Rattle.std.proofs.Common.{◌≡◌, ◌++◌, map, drop}
use Rattle.serde_json.specs.Data.{string}
use Rattle.serde_json.specs.View.{view}
use Rattle.request_lines.proofs.reply_value.texts_value.Given as goal

-- those before are in the list
abbrev pub invariant-loop-text : goal.invariant-loop-text
invariant-loop-text l = map string l.texts ≡ map view l.list.items ++ map string (drop l.text-index l.texts)
