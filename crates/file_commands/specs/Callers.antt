-- The words of `--caller`: each names a file of lines and a file for replies.
use Rattle.std.specs.Prelude.{ℕ, ◌==◌, Bool, false, ◌&&◌, ◌||◌, List, [], ◌∷◌, length, map, bytes_eq, nat_lt}
use Rattle.std.specs.List.{list_any, before_first, after_first}
use Rattle.clap.specs.Walk.{Text}

-- how many callers there are at most
abbrev pub most_callers : ℕ
most_callers = 130

abbrev pub is_colon : ℕ → Bool
is_colon byte = byte == 58

-- the file of a caller's lines: what is before the first colon
abbrev pub lines_file : Text → Text
lines_file word = before_first is_colon word

-- the file for a caller's replies: what is after it
abbrev pub replies_file : Text → Text
replies_file word = after_first is_colon word

-- the word names no two files
abbrev pub lacks_file : Text → Bool
lacks_file word = (length (lines_file word) == 0) || (length (replies_file word) == 0)

-- one of them is there twice
abbrev pub has_repeat : List Text → Bool
has_repeat [] = false
has_repeat (name ∷ names) = list_any (bytes_eq name) names || has_repeat names

-- There are SCRIPTs too, or more callers than there may be; a word does not name two files, or two callers
-- have one file for their replies
abbrev pub are_unfit : (scripts words : List Text) → Bool
are_unfit scripts words = (nat_lt 0 (length scripts) && nat_lt 0 (length words))
    || nat_lt most_callers (length words) || list_any lacks_file words
    || has_repeat (map replies_file words)
