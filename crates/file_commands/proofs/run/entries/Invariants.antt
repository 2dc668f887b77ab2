use Rattle.std.proofs.Common.{◌≡◌, ◌++◌, map, drop, string_bytes}
use Rattle.file_commands.proofs.run.entries.Given as goal

-- the entries so far, and those that are left
abbrev pub invariant-loop-entry : goal.invariant-loop-entry
invariant-loop-entry l = l.entries.items ++ map string_bytes (drop l.entry-index l.env) ≡ map string_bytes l.env
