-- What is written of one text.
use Rattle.std.specs.Prelude.{ℕ, List, Option, Result, Ok, Err}
use Rattle.std.specs.Io.KnownBytes.{Appends, Keeps}
use Rattle.call_journal.specs.Fronts.{Begins}
use Rattle.callers.specs.declared.caller.WriteError.{WriteError}
use Rattle.callers.specs.declared.caller.WriteError.TheVariants as why

-- the text was written; or a beginning of it, before the writer failed; or nothing, since memory ran out
abbrev pub Writes :
    Result Unit WriteError → (text : List ℕ) → (before after : Option (List ℕ)) → Type 0
Writes (Ok x) text before after = Appends before after text
Writes (Err why.Stream) text before after =
    (bytes : List ℕ) × Begins bytes text × Appends before after bytes
Writes (Err why.OutOfMemory) text before after = Keeps before after
