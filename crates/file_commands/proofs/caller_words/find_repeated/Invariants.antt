use Rattle.std.proofs.Common.{◌≡◌, map, string_bytes, length}
use Rattle.file_commands.specs.Callers.{replies_file, has_repeat}
use Rattle.file_commands.proofs.caller_words.find_repeated.Given as goal

-- no word so far has the file of a later one
abbrev pub invariant-loop-word : goal.invariant-loop-word
invariant-loop-word l =
    has_repeat (map replies_file (map string_bytes l.left))
    ≡ has_repeat (map replies_file (map string_bytes l.fn.words))

abbrev pub decreases-loop-word : goal.decreases-loop-word
decreases-loop-word l = length l.left
