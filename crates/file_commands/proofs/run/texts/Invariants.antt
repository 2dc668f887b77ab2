use Rattle.std.proofs.Common.{◌≡◌, ◌∷◌, ◌++◌, map, drop, string_bytes}
use Rattle.file_commands.proofs.run.texts.Given as goal

-- the texts so far, and those of the words left
abbrev pub invariant-loop-arg : goal.invariant-loop-arg
invariant-loop-arg l = l.texts.items ++ map string_bytes (drop l.arg-index l.args) ≡ l.name ∷ map string_bytes l.args
