-- Lines as they are read, in pieces.
use Rattle.std.specs.Prelude.{◌≡◌, ℕ, List, [], ◌∷◌, ◌++◌, Bool, Option, MatchBool}
use Rattle.std.specs.Io.KnownBytes.{Consumes, IsAtEnd}
use Rattle.request_lines.specs.declared.line_reader.Progress.{Progress}
use Rattle.request_lines.specs.declared.line_reader.Progress.TheVariants.{Found, More, End}
use Rattle.request_lines.specs.Input.{IsKept, HasNoFeed}

-- a piece of a line was taken from the front of the bytes, with the line feed after it if that was
-- found, and else all of them
pub record TakesPiece (found : Bool) (bytes rest piece : List ℕ) : Type 0 where
  pub plain : HasNoFeed piece
  pub split : MatchBool found (bytes ≡ piece ++ 10 ∷ rest) ((bytes ≡ piece) × (rest ≡ []))

-- what is consumed of the known bytes: a piece of a line, and the line feed after it if that was found; at
-- the end none are left
abbrev pub IsProgress : Progress → Option (List ℕ) → Option (List ℕ) → List ℕ → Type 0
IsProgress Found old new piece = Consumes old new (piece ++ 10 ∷ [])
IsProgress More old new piece = Consumes old new piece
IsProgress End old new piece = Consumes old new piece × IsAtEnd new

-- a piece of a line was read; what was kept of the line becomes what is kept of it with the piece
pub record ReadsPiece (progress : Progress) (old new was kept : Option (List ℕ)) : Type 0 where
  pub piece : List ℕ
  pub plain : HasNoFeed piece
  pub bytes : IsProgress progress old new piece
  pub adds : (before : List ℕ) → IsKept was before → IsKept kept (before ++ piece)
