-- What is answered to the lines of a stream.
use Rattle.std.specs.Prelude.{◌≡◌, ◌≤◌, ◌++◌, ℕ, List, [], ◌∷◌, length, Option, IfSome}
use Rattle.std.specs.List.{concat}
use Rattle.std.specs.Io.KnownBytes.{Appends, Consumes}
use Rattle.request_lines.specs.Input.{HasNoFeed}
use Rattle.request_lines.specs.Lines.{lines_of}
use Rattle.request_lines.specs.Session.{Session}
use Rattle.call_journal.specs.Fronts.{Begins}
use Rattle.call_journal.specs.Seats.{Known}
use Rattle.callers.specs.declared.caller.Driven.{Driven}
use Rattle.callers.specs.declared.caller.Driven.TheVariants as driven
use Rattle.callers.specs.Answered.{IsServed}

-- the known bytes begin with these lines
abbrev pub BeginWithLines : Option (List ℕ) → List (List ℕ) → Type 0
BeginWithLines known lines = IfSome known (λ bytes. Begins lines (lines_of bytes))

-- the lines, each with its line feed
abbrev pub fed : List (List ℕ) → List ℕ
fed [] = []
fed (line ∷ lines) = line ++ 10 ∷ fed lines

-- the bytes that the reader has given: these lines, each with its line feed, and a part of a line without one
abbrev pub AreGiven : (input left : Option (List ℕ)) → (lines : List (List ℕ)) → Type 0
AreGiven input left lines =
    (part : List ℕ) × HasNoFeed part × Consumes input left (fed lines ++ part)

-- The lines that were answered: all that there are if the input is at its end, else the first ones. If the
-- reader failed, each that it has given whole, and no other
abbrev pub AreRead : Driven → (input left : Option (List ℕ)) → (lines : List (List ℕ)) → Type 0
AreRead driven.End input left lines = IfSome input (λ bytes. lines_of bytes ≡ lines)
AreRead driven.ReadFault input left lines = BeginWithLines input lines × AreGiven input left lines
AreRead other input left lines = BeginWithLines input lines

-- all texts but perhaps the last
pub record AllButLast (texts written : List (List ℕ)) : Type 0 where
  pub last : List (List ℕ)
  pub one : length last ≤ 1
  pub joins : written ++ last ≡ texts

-- What was written of the texts of the answers: all of them. If the writer failed, a beginning; if memory ran
-- out for a text, those before it
abbrev pub AreWritten : Driven → (before after : Option (List ℕ)) → (texts : List (List ℕ)) → Type 0
AreWritten driven.WriteFault before after texts =
    (bytes : List ℕ) × Begins bytes (concat texts) × Appends before after bytes
AreWritten driven.NoMemory before after texts =
    (written : List (List ℕ)) × AllButLast texts written × Appends before after (concat written)
AreWritten other before after texts = Appends before after (concat texts)

-- a fault is told only of a stream that has failed
abbrev pub IsTold : Driven → (reader writer : Type 0) → Type 0
IsTold driven.ReadFault reader writer = reader
IsTold driven.WriteFault reader writer = writer
IsTold other reader writer = Unit {0}

-- The lines of a stream are answered in their order, each by one line, and the seat has seen this
-- then. `input` is what the reader had to give, `left` what it has still
pub record Drives (how : Driven) (was now : Known) (input left before after : Option (List ℕ)) :
    Type 0 where
  pub lines : List (List ℕ)
  pub texts : List (List ℕ)
  pub read : AreRead how input left lines
  pub session : Session IsServed was lines texts now
  pub written : AreWritten how before after texts
