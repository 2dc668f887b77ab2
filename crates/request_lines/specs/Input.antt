-- Lines as they are read.
use Rattle.std.specs.Prelude.{◌≡◌, ◌≢◌, ◌<◌, ◌+◌, ◌*◌, ℕ, List, ◌∷◌, true, Bool, Option, None, Some, length}
use Rattle.std.specs.List.{AllByRecursion}
use Rattle.std.specs.Io.KnownBytes.{Consumes, IsAtEnd}
use Rattle.request_lines.specs.Shape.{max_line_bytes}
use Rattle.request_lines.specs.Lines.{lines_of}

-- what is kept of a line: all of it, or nothing if it is too long
abbrev pub IsKept : Option (List ℕ) → (line : List ℕ) → Type 0
IsKept None line = max_line_bytes < length line
IsKept (Some kept) line = kept ≡ line

-- known bytes lose their first line
abbrev pub TakesLine : Option (List ℕ) → Option (List ℕ) → List ℕ → Type 0
TakesLine None new line = Unit {0}
TakesLine (Some xs) None line = ⊥
TakesLine (Some xs) (Some ys) line = lines_of xs ≡ line ∷ lines_of ys

-- there is no line feed among the bytes
abbrev pub HasNoFeed : List ℕ → Type 0
HasNoFeed = AllByRecursion (λ b. b ≢ 10)

-- known bytes lose some that have no line feed
abbrev pub TakesPart : Option (List ℕ) → Option (List ℕ) → Type 0
TakesPart old new = (part : List ℕ) × HasNoFeed part × Consumes old new part

-- where it says that the reader has answered its end, none of the known bytes are left
abbrev pub KnowsEnd : (at_end : Bool) → Option (List ℕ) → Type 0
KnowsEnd at_end known = at_end ≡ true → IsAtEnd known

-- how many bytes are asked of a source at a time
abbrev pub chunk_bytes : ℕ
chunk_bytes = 16384

-- how much there is to read yet at most: each read gives at most a chunk, and some bytes have been
-- read and not used
abbrev pub still_to_read : (reads : ℕ) → (bytes : List ℕ) → ℕ
still_to_read reads bytes = reads * (chunk_bytes + 1) + length bytes
