use Rattle.std.proofs.Common.{◌≡◌, bytes_eq, map, drop, string_bytes}
use Rattle.std.specs.List.{list_any}
use Rattle.file_commands.specs.Callers.{replies_file}
use Rattle.file_commands.proofs.caller_words.has_replies.Given as goal

-- no word so far has the file
abbrev pub invariant-loop-word : goal.invariant-loop-word
invariant-loop-word l =
    list_any (bytes_eq l.file) (map replies_file (map string_bytes (drop l.word-index l.words)))
    ≡ list_any (bytes_eq l.file) (map replies_file (map string_bytes l.words))
