-- What the parts of the command line's reader promise.
use Rattle.std.specs.Prelude.{◌≡◌, ◌≢◌, ◌⊎◌, List, [], ◌∷◌, Bool, true, bytes_eq, codes, Option, Some, IsSomeAnd}
use Rattle.std.specs.List.{list_any}
use Rattle.clap.specs.Simple.{Shape}
use Rattle.clap.specs.ValueTests.{is_unsigned_in}
use Rattle.clap.specs.Walk.{Row, Text, first_of, all_of}
use Rattle.clap.specs.declared.error.kind.ErrorKind.{ErrorKind}
use Rattle.clap.specs.declared.error.kind.ErrorKind.TheVariants as kind
use Rattle.file_commands.specs.declared.command.Command.{Command}
use Rattle.file_commands.specs.declared.command.Command.TheVariants.{Show}
use Rattle.file_commands.specs.declared.command.CommandError.{CommandError}
use Rattle.file_commands.specs.declared.command.CommandError.TheVariants.{OutOfMemory, Arguments}
use Rattle.file_commands.specs.declared.row.CommandRow.{CommandRow}
use Rattle.file_commands.specs.declared.row.CommandRow.TheVariants as row
use Rattle.file_commands.specs.Command.{serve_shape, replay_shape, asm_shape, check_shape, run_shape, IsUnfit}

-- a number below 2^64
abbrev pub IsNumber : Text → Type 0
IsNumber text = is_unsigned_in 0 18446744073709551615 text ≡ true

-- the argument of this name is among them, with a value
abbrev pub Has : (name : Text) → List Row → Type 0
Has name rows = (v : Text) × (vs : List Text) × (all_of name rows ≡ Some (v ∷ vs))

-- what an option for a number has is one
abbrev pub IsNumberIn : List Row → (name : Text) → Type 0
IsNumberIn rows name = (text : Text) → first_of name rows ≡ Some text → IsNumber text

abbrev pub reads_file : (name : Text) → Bool
reads_file name = list_any (bytes_eq name) (codes "replay" ∷ codes "asm" ∷ codes "check" ∷ [])

-- of the command of this name its file or module is there, and its numbers are some
abbrev pub IsComplete : (name : Text) → List Row → Type 0
IsComplete name rows = (reads_file name ≡ true → Has (codes "FILE") rows)
    × (bytes_eq name (codes "run") ≡ true → Has (codes "MODULE") rows)
    × IsNumberIn rows (codes "workers") × IsNumberIn rows (codes "memory")

-- the command of a row
abbrev pub row_shape : CommandRow → Shape
row_shape row.Serve = serve_shape
row_shape row.Replay = replay_shape
row_shape row.Asm = asm_shape
row_shape row.Check = check_shape
row_shape row.Run = run_shape

-- an error of this kind is shown
abbrev pub IsShown : ErrorKind → Command → Type 0
IsShown of (Show text) = (of ≡ kind.DisplayHelp) ⊎ (of ≡ kind.DisplayVersion)
IsShown of other = ⊥

-- what was found is unfit, unless memory ran out
abbrev pub IsRefusedFor : Option (Text × List Row) → CommandError → Type 0
IsRefusedFor found OutOfMemory = Unit {0}
IsRefusedFor found (Arguments text) = IsUnfit found

-- an error of this kind is a fault of the arguments
abbrev pub IsOfArguments : ErrorKind → CommandError → Type 0
IsOfArguments of OutOfMemory = Unit {0}
IsOfArguments of (Arguments text) =
    (of ≢ kind.OutOfMemory) × (of ≢ kind.DisplayHelp) × (of ≢ kind.DisplayVersion)

abbrev pub rows : List CommandRow
rows = row.Serve ∷ row.Replay ∷ row.Asm ∷ row.Check ∷ row.Run ∷ []

-- one of these rows has this name
abbrev pub is_row_name : List CommandRow → (name : Text) → Bool
is_row_name rows name = list_any (λ r. bytes_eq (row_shape r).name name) rows

-- a command was found, and is complete
abbrev pub IsFound : Option (Text × List Row) → Type 0
IsFound found = IsSomeAnd found (λ f. (is_row_name rows f.0 ≡ true) × IsComplete f.0 f.1)
