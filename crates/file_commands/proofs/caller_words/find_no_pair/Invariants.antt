use Rattle.std.proofs.Common.{◌≡◌, map, drop, string_bytes}
use Rattle.std.specs.List.{list_any}
use Rattle.file_commands.specs.Callers.{lacks_file}
use Rattle.file_commands.proofs.caller_words.find_no_pair.Given as goal

-- each word so far names two files
abbrev pub invariant-loop-word : goal.invariant-loop-word
invariant-loop-word l =
    list_any lacks_file (map string_bytes (drop l.word-index l.words)) ≡ list_any lacks_file (map string_bytes l.words)
