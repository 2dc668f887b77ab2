-- What the program writes for a command, and the status that it ends with.
use Rattle.std.specs.Prelude.{◌≡◌, ℕ, List, [], map, Option, Some, None, string_bytes}
use Rattle.file_commands.specs.declared.command.Command.{Command}
use Rattle.file_commands.specs.declared.command.Command.TheVariants.{Serve, Replay, Asm, Check, Run, Show}
use Rattle.file_commands.specs.declared.ran.Ran.{Ran}
use Rattle.file_commands.specs.Ran.{succeeded, refused, refused_run}
use Rattle.file_commands.specs.Assembled.{IsAssembled}
use Rattle.file_commands.specs.Checked.{IsCheck}
use Rattle.file_commands.specs.TaskRun.{given, IsRun}
use Rattle.file_commands.specs.Explained.{IsToldBy}
use Rattle.file_commands.specs.Replay.{IsReplay}

-- the file that a command reads
abbrev pub file_of : Command → Option (List ℕ)
file_of (Replay file) = Some (string_bytes file)
file_of (Asm file output explain) = Some (string_bytes file)
file_of (Check file list task memory explain) = Some (string_bytes file)
file_of (Run name args settings explain) = Some (string_bytes name)
file_of other = None

-- what a command writes whose file has these bytes; of `serve` nothing is written so
abbrev pub IsPerformed : Command → (bytes : List ℕ) → Ran → Type 0
IsPerformed (Serve workers scripts callers explain log format) bytes = λ ran. ran ≡ succeeded []
IsPerformed (Replay file) bytes = λ ran. IsReplay bytes ran.out × (ran ≡ succeeded ran.out)
IsPerformed (Asm file output explain) bytes = IsToldBy explain refused (IsAssembled bytes)
IsPerformed (Check file list task memory explain) bytes =
    IsToldBy explain refused (IsCheck task (string_bytes file) bytes list memory)
IsPerformed (Run name args settings explain) bytes = IsToldBy explain refused_run
    (IsRun bytes (given (string_bytes name) (map string_bytes args.items) settings))
IsPerformed (Show text) bytes = λ ran. ran ≡ succeeded (string_bytes text)
